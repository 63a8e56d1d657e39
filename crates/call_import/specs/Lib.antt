pub mod Import
pub use Import.{under_verdict, import_verdict}
unfoldable pub use Import.{weighed_under, import_bytes, import_weighed, import_answer, import_output}
