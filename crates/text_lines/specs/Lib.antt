pub mod Opens
pub mod Asks
