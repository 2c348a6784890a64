pub mod Fronts
pub mod Following
pub mod Judging
