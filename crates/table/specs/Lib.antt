pub mod Participant
pub use Participant.{longest_column, longest_table}
unfoldable pub use Participant.{has_columns, is_table, judged}
