pub mod Answer
pub mod Steps
