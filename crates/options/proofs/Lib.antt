pub mod Filling
pub mod Posing
pub mod Planning
pub mod Enough
