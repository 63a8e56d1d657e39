pub mod Types
pub use declared.Forest.{Forest}
pub use declared.Region.{Region}
pub use Types.{region_number, digit_of, letters, regions, order_of, same_type}
unfoldable pub use Types.{letters_of, beside, letter_names, region_names, named}
