pub mod Frames
pub mod Rows
pub mod Marks
pub mod Needed
pub mod Columns
