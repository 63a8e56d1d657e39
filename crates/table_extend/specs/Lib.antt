pub mod Extension
unfoldable pub use Extension.{begun, is_free, longer, extensible}
