pub mod Room
pub mod Printed
pub use Room.{heading_width, most_for_byte, export_room}
unfoldable pub use Printed.{sheet_printed}
