pub mod Scan
pub mod Jobs
pub mod Stretches
pub mod Releases
pub mod Loops
