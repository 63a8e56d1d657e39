pub mod Turns
pub mod Rows
pub mod JoinedRows
pub use declared.Reading.{Reading}
pub use declared.Mark.{Mark}
pub use declared.JoinedRow.{JoinedRow}
pub use Turns.{quote, carriage_return, line_feed, may_end, quoted_mark, mark_of}
unfoldable pub use Turns.{after_field, plain_at, begins_at, turned, reading_after, sound}
pub use Rows.{Row, at_end}
unfoldable pub use Rows.{in_front, field_in_front, marked, rows_from, rows_of}
pub use JoinedRows.{mark_text, mark_fields, ends_row, Joined}
unfoldable pub use JoinedRows.{joined_from, fields_from, width_from}
