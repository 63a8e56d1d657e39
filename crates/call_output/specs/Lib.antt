pub mod Outputs
pub mod Given
pub use Outputs.{reported_bytes, state_bytes, changed_width}
unfoldable pub use Outputs.{table_bytes, changed_text, changed_bytes, with_room}
pub use Given.{Gives}
