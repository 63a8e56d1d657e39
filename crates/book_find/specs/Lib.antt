pub mod Naming
pub use declared.Named.{Named}
pub use Naming.{place_in, nothing_named, named_by}
