pub mod Ages
pub use Ages.{age_if}
unfoldable pub use Ages.{greatest_age, hectare_age}
