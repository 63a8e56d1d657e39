pub mod TableBytes
pub mod Changed
pub mod Given
