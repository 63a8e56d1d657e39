pub mod Hectares
pub use declared.Hectare.{Hectare}
pub use Hectares.{oldest_trees, most_basal_area, out_of_range, other_type, bare_in, Answer, aged}
unfoldable pub use Hectares.{cases, answer_of, held_of, hectare_of}
