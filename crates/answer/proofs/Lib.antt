pub mod Outputs
pub mod Calls
pub mod Example
