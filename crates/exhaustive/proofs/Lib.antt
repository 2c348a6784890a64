pub mod Order
pub mod Seeing
pub mod Hands
pub mod Chosen
pub mod Counting
