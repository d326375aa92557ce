pub mod LineEnd
pub mod Turns
pub mod Read
pub mod Promised
