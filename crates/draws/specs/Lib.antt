pub mod Generated
pub mod Calls
