pub mod Quantities
pub mod Planning
pub mod Refusals
pub mod Answers
pub mod Calls
pub mod DemandThree
pub mod Sets
