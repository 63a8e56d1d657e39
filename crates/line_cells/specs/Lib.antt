pub mod Reading
pub use declared.Cells.{Cells}
pub use Reading.{some_cell, bad_cell, tenths_in}
unfoldable pub use Reading.{tenths_all, cells_found}
