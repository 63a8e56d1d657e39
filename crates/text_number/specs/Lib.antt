pub mod Numbers
pub use declared.Unread.{Unread}
pub use Numbers.{Number, room, append_digit}
unfoldable pub use Numbers.{append, more, headed, number_in}
