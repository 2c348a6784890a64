pub mod States
pub mod Sizes
pub mod Places
pub mod Passing
pub mod Unique
pub mod Cases
