pub mod Given
pub mod Extended
