pub mod Writable
unfoldable pub use Writable.{writable}
