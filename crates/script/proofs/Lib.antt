pub mod Laws
pub mod LineEnd
pub mod Turns
pub mod Lines
pub mod Rounds
pub mod Promises
