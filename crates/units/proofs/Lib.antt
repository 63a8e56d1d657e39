pub mod Products
pub mod Rounding
pub mod Sums
