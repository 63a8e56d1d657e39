pub mod Marked
pub use Marked.{Example, Says, Every, hectares_line, rest, tenths, group, marked}
