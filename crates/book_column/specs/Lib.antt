pub mod Columns
pub use Columns.{Fronts}
unfoldable pub use Columns.{column_numbers, column_count}
