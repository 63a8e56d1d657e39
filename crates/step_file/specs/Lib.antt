pub mod Filing
pub use declared.Settled.{Settled}
pub use Filing.{received_of, due_of, settled_of}
unfoldable pub use Filing.{file_cases, change_of, filed_area, return_of, filed}
