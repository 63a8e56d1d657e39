pub mod Sheet
pub mod Adding
pub use Sheet.{shown_at, begins_with}
unfoldable pub use Sheet.{number_shown, received_shown, due_shown, balance_after, last_balance, sum_to}
pub use Adding.{AddsUp, Footed}
