pub mod Turns
pub mod Following
pub mod Runs
pub mod Rows
pub mod Exports
