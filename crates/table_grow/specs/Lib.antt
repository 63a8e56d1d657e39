pub mod Growing
unfoldable pub use Growing.{line_column, line_cells, longer_by, growable}
