pub mod Clearing
unfoldable pub use Clearing.{clear_cases, cleared_sub, cleared_area, cleared}
