pub mod Reading
pub use declared.AmountsRead.{AmountsRead}
pub use declared.AreaRead.{AreaRead}
pub use declared.AreasRead.{AreasRead}
pub use declared.HoldingRead.{HoldingRead}
pub use declared.ResidueRead.{ResidueRead}
pub use declared.SubRead.{SubRead}
pub use declared.YearsRead.{YearsRead}
pub use Reading.{most8, most16, most32, most_read, area_begun, area_line_at, areas_from, areas_at, holding_at}
unfoldable pub use Reading.{residue_at, sub_line_at, items_from, subs_from, subs_within, years_at, amounts_at, area_line_within, areas_from_within, areas_within, holding_within}
