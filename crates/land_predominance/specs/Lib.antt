pub mod Predominance
pub use Predominance.{comes_before, precedes, no_group}
unfoldable pub use Predominance.{leading, predominant_of}
