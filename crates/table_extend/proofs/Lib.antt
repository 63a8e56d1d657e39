pub mod Begun
pub mod Kept
pub mod Longer
pub mod Refused
