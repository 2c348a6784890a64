pub mod Layouts
pub mod Places
pub mod Whole
pub mod Edges
pub mod Built
