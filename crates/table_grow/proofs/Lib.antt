pub mod Cells
pub mod Fits
pub mod Growth
