pub mod Statement
pub use declared.Read.{Read}
pub use Statement.{accepts_within, read_if, accepts, acceptable, read_of}
unfoldable pub use Statement.{acceptable_within, read_within}
