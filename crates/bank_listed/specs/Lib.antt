pub mod Listed
pub mod Sizes
