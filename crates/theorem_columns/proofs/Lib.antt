pub mod Longer
pub mod Named
pub mod Consulted
