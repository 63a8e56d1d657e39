pub mod Turns
pub mod Samples
pub mod Joining
pub mod Joined
