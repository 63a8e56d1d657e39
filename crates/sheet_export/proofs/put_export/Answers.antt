-- `sheet_export::put_export` meets its contract: the heading, and the rows of all lines.
use Rattle.text.proofs.Writes.{wrote_then, wrote_as}
use Rattle.sheet_export.proofs.Exported.{export_whole}
use Rattle.sheet_export.proofs.put_export.Goals as goal

pub returns : goal.returns
returns c = wrote_as (export_whole _) (wrote_then c.put_heading-at.ensures c.put_rows.ensures)
