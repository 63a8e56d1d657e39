pub mod Puts
pub mod Texts
