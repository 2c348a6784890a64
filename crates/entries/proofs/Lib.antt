pub mod Bytes
pub mod Entries
pub mod PlanEntries
pub mod GenerateEntries
pub mod Unique
pub mod TwoEngines
