pub mod Reads
pub mod Used
