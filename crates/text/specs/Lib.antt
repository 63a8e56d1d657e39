pub mod Digits
pub mod Fields
pub mod Writing
unfoldable pub use Digits.{digits_in, digits}
pub use Fields.{comma, line_end, field_at}
unfoldable pub use Fields.{width_to, holds, extend, split, join_after, join, Plain, AllPlain}
pub use Writing.{greatest, Wrote}
