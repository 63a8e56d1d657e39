pub mod Laws
pub mod Letters
pub mod Columns
pub mod Refused
