pub mod Types
pub use Types.{unlisted, unplantable, misdated_if, misdated, forest_of}
