pub mod Places
pub use Places.{area_in, after_area}
unfoldable pub use Places.{items_read, place_after, head_at, place_of, start_of, end_of}
