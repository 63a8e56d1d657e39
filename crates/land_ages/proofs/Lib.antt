pub mod ByType
pub mod Oldest
pub mod Turns
