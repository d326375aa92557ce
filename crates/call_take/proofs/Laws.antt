pub mod Ends
pub mod Marked
pub mod Begun
pub mod Taken
