pub mod Rows
pub mod Rates
