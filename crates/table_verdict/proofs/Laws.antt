-- The laws, in reading order: a file uses those above it.
pub mod Reps
pub mod Rows
pub mod Run
pub mod Accepts
pub mod Lookup
pub mod States
pub mod Verdict
pub mod Tied
