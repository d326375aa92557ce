pub mod Members
pub mod Changes
pub mod Run
