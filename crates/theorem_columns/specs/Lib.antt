pub mod Naming
pub use Naming.{Names, NamesSome}
