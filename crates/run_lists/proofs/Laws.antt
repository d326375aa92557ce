-- The laws, in reading order: a file uses those above it.
pub mod Tests
pub mod Arrays
pub mod Lists
