-- The laws, in reading order: a file uses those above it.
pub mod Finals
pub mod Transition
pub mod Rule
pub mod Flat
pub mod Proposed
pub mod Emitting
