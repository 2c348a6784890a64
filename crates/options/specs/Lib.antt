pub mod Options
pub mod Posed
