pub mod Writing
pub mod Stores
pub mod Rows
