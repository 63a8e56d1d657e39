pub mod Writing
unfoldable pub use Writing.{doubled, quoted, row_text, sheet_text, row_of}
