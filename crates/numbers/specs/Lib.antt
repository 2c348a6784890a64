pub mod Numbers
pub mod Halving
pub mod Search
pub mod Power
