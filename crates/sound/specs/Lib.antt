pub mod Given
pub mod Working
pub mod Proposal
