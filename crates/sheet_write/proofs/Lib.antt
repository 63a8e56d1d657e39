pub mod Doubling
pub mod Fields
