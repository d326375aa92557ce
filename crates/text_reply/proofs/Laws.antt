pub mod Left
pub mod Replying
pub mod Hearing
