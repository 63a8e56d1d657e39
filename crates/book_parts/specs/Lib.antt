pub mod Parts
pub use Parts.{part_lines, closing_at, closing_width, ComesTo, Whole}
unfoldable pub use Parts.{part_from, part_of}
