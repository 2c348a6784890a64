pub mod Classes
pub mod Places
pub mod Strings
