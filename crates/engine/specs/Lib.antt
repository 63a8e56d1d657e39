pub mod Answers
pub mod Export
pub use Answers.{signed, Fitting}
unfoldable pub use Export.{export_answer, export_output}
