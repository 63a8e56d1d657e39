pub mod Acts
unfoldable pub use Acts.{step_outcome, step_verdict, step_bytes}
