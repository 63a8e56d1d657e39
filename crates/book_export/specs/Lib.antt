pub mod Export
pub use Export.{adds, is_addition, is_exported, exported_for, export_weighed}
unfoldable pub use Export.{exported_row, exported_from, export_rows, export_of}
