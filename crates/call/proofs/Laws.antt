-- The laws, in reading order: a file uses those above it.
pub mod LentFault
pub mod Called
pub mod Started
pub mod Looked
