pub mod LookUp
pub mod Default
pub mod BareLand
pub mod Ceiling
pub mod Decay
