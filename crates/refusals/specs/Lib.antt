pub mod Answers
pub mod Refusals
pub use declared.Refusal.{Refusal}
unfoldable pub use Answers.{written, buffer_after}
pub use Answers.{Written}
pub use Refusals.{Verdict, number_of, Case, ◌⇒◌, and_then, smaller}
unfoldable pub use Refusals.{weighed, weigh_all, smallest}
