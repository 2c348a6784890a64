pub mod Puts
pub mod Sinks
pub mod Counted
pub mod Taken
