pub mod Columns
pub mod Cells
pub mod Schedules
pub use declared.Kind.{Kind}
pub use declared.Place.{Place}
pub use Columns.{Column, listed, no_column, no_place}
unfoldable pub use Columns.{joined, places_from}
unfoldable pub use Cells.{stock4, stock6, residue6}
pub use Schedules.{cell_ceiling, column_in, place_in}
unfoldable pub use Schedules.{schedule4, schedule6, column_four, column_six, place_four, place_six}
