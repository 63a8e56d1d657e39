pub mod Adding
pub use Adding.{new_sub}
unfoldable pub use Adding.{add_cases, added_area, added}
