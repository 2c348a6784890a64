pub mod Order
pub mod Engine
