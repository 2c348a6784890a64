pub mod Overs
pub mod Answers
