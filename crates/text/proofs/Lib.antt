pub mod Digits
pub mod Widths
pub mod Fields
pub mod Writes
pub mod Joins
