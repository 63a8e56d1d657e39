pub mod Placed
pub mod Bridge
pub mod Acts
