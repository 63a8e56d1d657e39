pub mod Areas
pub mod Pass
pub use declared.Passed.{Passed}
pub use Areas.{Sought, not_there, PassesAreas}
unfoldable pub use Areas.{sought_from}
unfoldable pub use Pass.{passed_over}
