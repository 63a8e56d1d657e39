pub mod Arrays
pub mod Items
pub mod Fitting
pub mod WrittenReads
pub mod ReadWrites
pub mod Holdings
pub mod Statements
pub mod Trips
