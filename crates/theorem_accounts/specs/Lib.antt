pub mod Reports
pub mod Feeding
pub mod Accounts
pub use Reports.{Reported, nothing_reported, running_sums}
unfoldable pub use Reports.{reported_with, reported_from, total, sums_from, lowest}
pub use Feeding.{is_accepted, change_by, change_for, is_return, is_return_of}
unfoldable pub use Feeding.{under, fed, accepted_of, changes_from, returns_in}
pub use Accounts.{holding_after, outcomes_of, steps_of, ledger_after, reported_for, Accounted, Shown}
unfoldable pub use Accounts.{Agrees, AccountsAgree}
