pub mod Lines
pub mod Listing
unfoldable pub use Lines.{lines_of}
pub use Listing.{closing, column_taken, entry_table, parsed_table, if_accepted, Run, longest_book, refused_book}
unfoldable pub use Listing.{entry_taken, parsed_taken, line_taken, table_after, start, next, printed_for, printed, run_from, printed_from, list_from, lines_run, listing_of}
