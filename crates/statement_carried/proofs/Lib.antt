pub mod Bounds
pub mod Residues
