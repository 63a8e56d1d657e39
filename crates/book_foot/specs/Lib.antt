pub mod Foot
pub use Foot.{units_text, foot_by, most_for_foot}
unfoldable pub use Foot.{all_carried, summable, foot_of}
