pub mod Scan
pub mod Marked
