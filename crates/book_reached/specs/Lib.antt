pub mod Reaching
pub use declared.Reached.{Reached}
pub use Reaching.{run_of, nothing_reached, may_run_from}
unfoldable pub use Reaching.{may_run}
