pub mod Carried
pub mod Feet
