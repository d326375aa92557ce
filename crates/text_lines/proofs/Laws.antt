pub mod Opening
pub mod Asking
