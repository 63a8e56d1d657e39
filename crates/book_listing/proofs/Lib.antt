pub mod Lines
pub mod Folding
pub mod Printed
