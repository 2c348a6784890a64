pub mod Ways
pub mod Trying
pub mod Choosing
