pub mod Parts
pub use Parts.{InParts, joined_parts}
