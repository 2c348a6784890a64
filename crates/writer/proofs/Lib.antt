pub mod Rests
pub mod Rows
pub mod Lists
pub mod Calls
