pub mod Importing
pub mod Onto
pub mod Taking
pub use declared.RowRead.{RowRead}
pub use Importing.{Imported, row_line, row_taken, sheet_rows, imported_if}
unfoldable pub use Importing.{import_rows, import_onto}
unfoldable pub use Onto.{onto_verdict, onto_bytes}
pub use Onto.{first_text, first_width}
pub use Taking.{line_at, ReadsRow}
