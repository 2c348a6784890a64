pub mod Engines
pub mod Calls
pub mod Unique
pub mod Firsts
