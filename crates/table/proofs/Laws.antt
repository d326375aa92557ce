-- The laws, in reading order: a file uses those above it.
pub mod Rows
pub mod Differ
pub mod Gap
pub mod Growth
pub mod Judge
pub mod Tied
pub mod ToGap
pub mod Known
pub mod Judged
pub mod InT
