pub mod GivingBack
pub mod Steps
pub use GivingBack.{opens, opens_area, adds_sub, opens_or_adds, table_of, acts_of, alone, imported, entry_on, row_entries, GivenBack}
unfoldable pub use Steps.{acts_of_rows}
pub use Steps.{sheet_acts, import_steps, ImportEntered, ImportAccounted}
