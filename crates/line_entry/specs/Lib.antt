pub mod Refused
pub mod Rules
pub use declared.Act.{Act}
pub use declared.AreaAct.{AreaAct}
pub use declared.Entry.{Entry}
pub use Refused.{refused_by}
pub use Rules.{Parsed, number_at, hectares_at, type_at, bad_area, bad_sub, bad_hectares, bad_year, on, Rule, parsed_by, misnamed, misformed}
unfoldable pub use Rules.{letter_in, parsed, area_and_year, open_rule, file_rule, add_rule, clear_rule, plant_rule, withdraw_rule}
