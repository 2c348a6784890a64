pub mod Rising
pub mod Tables
pub mod Cases
pub mod Limits
