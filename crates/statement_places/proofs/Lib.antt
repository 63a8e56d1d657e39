pub mod Places
pub mod Widths
pub mod Fields
pub mod Values
pub mod Starts
pub mod Items
pub mod Lines
pub mod Areas
