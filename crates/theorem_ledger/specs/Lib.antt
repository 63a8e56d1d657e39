pub mod Ledger
unfoldable pub use Ledger.{change, entered, noted}
pub use Ledger.{Row, row_number, sub_number, row_with, opened, added, with_subs, cleared, planted, lesser, stock_after, change_of, returned, withdrawn_row, noted_step, ledger_of}
