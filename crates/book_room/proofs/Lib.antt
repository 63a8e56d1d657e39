pub mod Texts
pub mod Widths
pub mod Reports
pub mod Feet
pub mod Runs
pub mod Bound
