pub mod Room
pub use Room.{tonnes_digits, units_digits, return_width, withdrawal_width, most_for_byte, most_for_end, room_for_any}
