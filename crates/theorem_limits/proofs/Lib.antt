pub mod Laying
pub mod Widening
pub mod Theorems
pub mod Examples
