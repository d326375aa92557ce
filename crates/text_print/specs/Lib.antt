pub mod Tells
pub mod Writing
