pub mod Writing
pub mod Adding
pub mod Units
pub mod Chosen
