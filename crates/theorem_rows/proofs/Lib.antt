pub mod Sheets
pub mod Inverse
