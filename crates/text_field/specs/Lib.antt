pub mod Scan
pub use declared.Places.{Places}
unfoldable pub use Scan.{starts_from, places_of, between, part}
