pub mod Outcomes
pub use declared.Filed.{Filed}
pub use declared.Outcome.{Outcome}
pub use declared.Report.{Report}
pub use Outcomes.{turned_back, accepted, placed_at, uncarried}
unfoldable pub use Outcomes.{answered, placed, area_cases}
