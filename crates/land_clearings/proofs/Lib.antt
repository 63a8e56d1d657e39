pub mod Examples
pub mod Oldest
pub mod Window
