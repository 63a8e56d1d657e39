pub mod Cells
unfoldable pub use Cells.{cells_verdict}
