pub mod Foot
unfoldable pub use Foot.{foot_bytes, foot_weighed, foot_answer, foot_output}
