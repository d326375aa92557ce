pub mod Looks
pub mod Views
pub mod Fits
pub mod Loads
pub mod Wholes
pub mod Promises
