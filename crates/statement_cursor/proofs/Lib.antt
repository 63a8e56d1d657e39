pub mod Fields
pub mod Leading
pub mod Numbers
pub mod Starts
