pub mod Fits
pub mod Walk
pub mod Keys
pub mod Reading
pub mod Put
pub mod Flat
pub mod Writing
