pub mod Format
pub mod Widths
pub use Format.{flag}
unfoldable pub use Format.{start_text, number_text, type_text, joined, texts, residue_text, residues_text, sub_text, years_text, amounts_text, area_text, statement_of}
pub use Widths.{start_width, field, long_width, short_width, type_width, residue_width, sub_width, years_width, amounts_width, area_width, statement_width, carried_sub_width, carried_area_width, carried_width}
