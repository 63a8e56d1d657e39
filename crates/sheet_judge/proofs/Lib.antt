pub mod Same
pub mod Rows
pub mod Heading
pub mod Samples
