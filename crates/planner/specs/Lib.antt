pub mod Answers
pub mod Engines
