pub mod Columns
pub mod Fronts
