pub mod Reached
pub use Reached.{Tidy, TidyAreaIn, TidyHoldingIn, KeptWithin, TidyArea, Kept}
unfoldable pub use Reached.{Each}
