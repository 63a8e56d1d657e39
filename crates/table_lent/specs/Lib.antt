pub mod Lent
pub use declared.LentTable.{LentTable}
unfoldable pub use Lent.{own_column, lent_lengths, lent_column}
