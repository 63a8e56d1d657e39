pub mod Examples
pub mod Residues
pub mod Texts
