pub mod Withdrawing
unfoldable pub use Withdrawing.{withdraw_cases, withdrawn_area, withdrawn}
