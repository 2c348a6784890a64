pub mod Entry
pub mod Put
