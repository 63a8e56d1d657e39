pub mod Areas
pub mod Numbers
pub use declared.Area.{Area}
pub use declared.Holding.{Holding}
pub use declared.Residue.{Residue}
pub use declared.Sub.{Sub}
pub use Areas.{most_areas, most_subs, areas_of, subs_of, no_residue, is_none, residues_of, empty_sub, opened_with, opened_area, empty_area, empty_holding, with_trees, with_residue, changed, with_subs, with_latest, with_stock, with_units, with_returns, as_withdrawn}
unfoldable pub use Areas.{residues_in, place_from, find_area, find_sub}
pub use Numbers.{numbers_in}
