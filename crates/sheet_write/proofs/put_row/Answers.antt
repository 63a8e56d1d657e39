-- `sheet_write::put_row` meets its contract: the fields that the scan found, each in its quotes with a comma behind it or, behind the last, CR LF.
use Rattle.laws.proofs.{ap}
use Rattle.text.proofs.Writes.{wrote_then, wrote_as}
use Rattle.sheet_write.specs.{quoted}
use Rattle.sheet_write.proofs.Fields.{row_found}
use Rattle.sheet_write.proofs.put_row.Goals as goal

pub returns : goal.returns
returns c =
    let last = c in
    let fourth = last in
    let third = fourth in
    let second = third in
    let first = second in
    let scan = first in
    let line = scan.args.line.now in
    wrote_as (row_found line _ scan.scan-places.ensures)
    (wrote_then
    (wrote_then
    (wrote_then (wrote_then (wrote_then first.put_field-area.ensures second.put_field-sub.ensures) third.put_field-hectares.ensures) fourth.put_field-forest.ensures)
    (wrote_as (ap quoted last.field.ensures) last.put_quoted-planted.ensures))
    c.put_bytes.ensures)
