pub mod Determined
pub mod Examples
pub mod Judged
pub mod Refused
