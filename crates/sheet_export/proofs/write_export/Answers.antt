-- `sheet_export::write_export` meets its contract: the export is measured where there might be no room for it, and written where there is.
use Rattle.statement_write.proofs.Writable.{refused, accepted}
use Rattle.sheet_export.proofs.Exported.{bounded, unmeasured}
use Rattle.sheet_export.proofs.write_export.Goals as goal

pub returns-then-out-ge-ROOM : goal.returns-then-out-ge-ROOM
returns-then-out-ge-ROOM c =
    let all = unmeasured c.args.book.now c.requires c.put_export-count.ensures c.if-out-ge-ROOM.true in
    record { value = all.0; out_after = all.1 }

pub returns-then-out-need : goal.returns-then-out-need
returns-then-out-need c =
    let all = refused _ _ c.put_export-need.ensures (bounded c.args.book.now c.requires) _ c.if-out-need.true in
    record { value = all.0; out_after = all.1 }

pub returns : goal.returns
returns c =
    let all = accepted _ _ c.put_export-need.ensures (bounded c.args.book.now c.requires) _ _ _ c.if-out-need.false c.put_export-count-2.ensures in
    record { value = all.0; out_after = all.1 }
