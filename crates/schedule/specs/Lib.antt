pub mod Walk
pub mod Counted
pub mod Stretch
