pub mod Running
pub mod Calls
pub mod Books
pub use Running.{acts_in, enter_each, all_accepted, RunAccounted}
unfoldable pub use Running.{reports_of}
pub use Calls.{answer_to, if_taken, CallsAccounted}
unfoldable pub use Calls.{sent_from, reports_from}
pub use Books.{is_report, ended, BookAccounted}
unfoldable pub use Books.{acts_from, reports_in}
