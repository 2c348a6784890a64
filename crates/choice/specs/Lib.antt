pub mod Choice
pub mod Units
