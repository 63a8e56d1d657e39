pub mod Rates
pub use Rates.{kind_letter, own_number, at_place, column_of, first_age}
unfoldable pub use Rates.{consulted, cell_at, rate_six, rate_four, share_after}
