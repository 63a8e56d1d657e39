pub mod Stocks
unfoldable pub use Stocks.{trees_on, one_residue_on, residue_on, sub_stock, area_stock}
