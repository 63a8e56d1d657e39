-- `sheet_judge::all_five` meets its contract. The loop's invariant: those left have five fields just when all have.
use Rattle.laws.proofs.{◌∙◌, arith}
use Rattle.text.proofs.Writes.{wrote-length}
use Rattle.sheet_read.proofs.Joined.{width_some}
use Rattle.sheet_judge.proofs.Rows.{five_on, five_off, five_ends}
use Rattle.sheet_judge.proofs.all_five.Goals as goal

pub returns-then-row-ne-FIELDS : goal.returns-then-row-ne-FIELDS
returns-then-row-ne-FIELDS c =
    let row = c.put_joined-row.ensures in
    five_off _ _ _ _ c.loop-i-test.true row.fields row.next c.if-row-ne-FIELDS.true ∙ c.loop-i.invariant.1

pub loop-i-smaller : goal.loop-i-smaller
loop-i-smaller c = omega (arith, c.put_joined-row.ensures.next, width_some c.args.sheet.now c.loop-i.i c.loop-i-test.true)

pub loop-i-preserved : goal.loop-i-preserved
loop-i-preserved c =
    let row = c.put_joined-row.ensures in
    (wrote-length row.wrote ∙ c.loop-i.invariant.0, five_on _ _ _ _ c.loop-i-test.true row.fields row.next c.if-row-ne-FIELDS.false ∙ c.loop-i.invariant.1)

pub returns : goal.returns
returns c = five_ends _ _ c.loop-i-test.false ∙ c.loop-i.invariant.1
