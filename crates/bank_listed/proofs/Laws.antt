pub mod ArrayStack
pub mod Reading
pub mod Storing
pub mod Cut
pub mod Summed
pub mod Passed
