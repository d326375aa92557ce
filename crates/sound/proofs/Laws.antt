-- The laws, in reading order: a file uses those above it.
pub mod Parts
pub mod Prepared
pub mod Judged
pub mod Members
pub mod Working
pub mod Rooms
pub mod Proposal
pub mod Within
