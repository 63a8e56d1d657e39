pub mod Judging
pub use Judging.{heading_row, five_fields, same_bytes, same_row}
unfoldable pub use Judging.{same_by, regular, sheet_verdict}
