pub mod Decimals
pub use Decimals.{point, zeros, cell_in}
unfoldable pub use Decimals.{with_decimals, decimal_in, hectares_in}
