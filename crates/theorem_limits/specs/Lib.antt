pub mod Wider
pub use Wider.{Narrower, area_in_places, holding_in_places, NoneAbove, WrittenAsBefore, StillRead}
