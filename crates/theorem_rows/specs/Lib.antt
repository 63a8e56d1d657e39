pub mod Rows
pub use Rows.{has_field}
