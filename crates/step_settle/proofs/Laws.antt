-- The laws, in reading order: a file uses those above it.
pub mod Gap
pub mod Lists
pub mod States
pub mod Ends
pub mod Settled
pub mod PutDown
