pub mod Standing
pub mod Totals
pub use declared.Looked.{Looked}
pub use declared.Stand.{Stand}
pub use declared.Units.{Units}
pub use Standing.{known, looked_at, looked_up, balance_of, subs_with}
unfoldable pub use Standing.{area_at, sub_at, with_sub}
pub use Totals.{units_received, units_surrendered, units_in, units_of}
