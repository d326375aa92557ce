pub mod Runs
pub mod Printing
pub mod Printed
pub mod Seen
