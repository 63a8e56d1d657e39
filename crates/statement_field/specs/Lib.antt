pub mod Room
pub use Room.{Put}
