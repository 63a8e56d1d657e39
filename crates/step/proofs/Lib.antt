pub mod Smallest
pub mod Entered
pub mod Defaults
