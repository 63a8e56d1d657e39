pub mod Widths
pub mod Bound
pub mod Exported
