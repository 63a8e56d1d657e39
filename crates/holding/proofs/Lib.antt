pub mod Items
pub mod Residues
pub mod Stands
