pub mod Units
pub use declared.Change.{Change}
pub use declared.Kilograms.{Kilograms}
pub use declared.Rate.{Rate}
pub use declared.Tenths.{Tenths}
pub use Units.{no_kilograms, most_kilograms}
unfoldable pub use Units.{tenths_of, trees_of, residue_of, plus, tonnes, nearest_tonne, value, change_between}
