pub mod Planting
unfoldable pub use Planting.{plant_cases, planted_sub, planted_area, planted}
