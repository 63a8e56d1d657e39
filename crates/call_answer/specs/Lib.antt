pub mod Call
pub use Call.{line_verdict, parsed_bytes, answer_of}
unfoldable pub use Call.{table_verdict, call_verdict, entry_bytes, call_bytes, call_weighed, call_answer, call_output}
