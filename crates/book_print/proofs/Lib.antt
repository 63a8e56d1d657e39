pub mod Lengths
pub mod Parts
