pub mod ReadBacks
pub mod Lines
pub mod DemandThree
pub mod Refused
pub mod Rows
pub mod Examples
