pub mod Examples
pub mod Refused
pub mod Taken
pub mod Turns
