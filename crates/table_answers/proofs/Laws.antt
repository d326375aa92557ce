pub mod Cut
pub mod Steps
