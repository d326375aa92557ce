pub mod Blocks
pub mod Flat
pub mod Put
pub mod Loaded
