pub mod Smaller
pub mod Ranged
pub mod Tables
pub mod Order
pub mod TableRead
