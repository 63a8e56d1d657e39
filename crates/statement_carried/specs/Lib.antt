pub mod Most
pub mod Carried
pub use Most.{Limits, first_limits, limits, stock_for_sub, received_for_return}
pub use Carried.{oldest_residue, amounts_carried, fields_carried, area_carried, carried}
unfoldable pub use Carried.{years_carried, amounts_within, fields_within, residue_carried, sub_carried, area_within, carried_within}
