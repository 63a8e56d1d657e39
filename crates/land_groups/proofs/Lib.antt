pub mod HalfUp
pub mod Mean
pub mod Turns
