pub mod Steps
pub mod Shown
pub mod Claim
pub use Steps.{Step, Result, write_answer, output_after, read_after, read_result}
unfoldable pub use Steps.{result_of, holding_from, outcomes_from, fed}
pub use Shown.{LineShown}
unfoldable pub use Shown.{area_line, Shows}
pub use Claim.{holding_after, outcomes_of, reported_for, fed_by, ledger_after, row_for, DemandThree}
