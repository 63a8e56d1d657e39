pub mod Parts
pub mod Ceiling
pub mod Places
