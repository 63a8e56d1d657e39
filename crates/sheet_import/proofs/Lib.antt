pub mod Lines
pub mod Rows
pub mod Sheets
pub mod Standing
pub mod Reading
pub mod Onto
