-- `sheet_read::put_joined` meets its contract. The loop's invariant: what is left of the row, put behind what was put, is the row.
use Rattle.laws.proofs.{sym, ◌∙◌, arith}
use Rattle.text.proofs.Writes.{wrote-length}
use Rattle.sheet_read.proofs.Joining.{fields-few, left_none, left_ended, left-on}
use Rattle.sheet_read.proofs.put_joined.Goals as goal

pub returns-then-ends_row : goal.returns-then-ends_row
returns-then-ends_row c =
    c.loop-i.invariant.4 _ _
    (left_ended _ _ _ _ _ c.loop-i-test.true c.turn-next.ensures c.mark_of-mark.ensures _ _ _ _ _ _
    c.mark_fields-fields.ensures c.put_marked-end.ensures (sym c.ends_row.ensures ∙ c.if-ends_row.true))

pub loop-i-preserved : goal.loop-i-preserved
loop-i-preserved c = (
  wrote-length c.put_marked-end.ensures ∙ c.loop-i.invariant.0,
  omega (arith, fields-few c.mark_of-mark.result, c.mark_fields-fields.ensures, c.loop-i.invariant.1),
  omega (arith, c.put_marked-end.ensures.place),
  omega arith,
  λ o row k.
      c.loop-i.invariant.4 o row
      (left-on _ _ _ _ _ c.loop-i-test.true c.turn-next.ensures c.mark_of-mark.ensures _ _ _ _ _ _
      c.mark_fields-fields.ensures c.put_marked-end.ensures (sym c.ends_row.ensures ∙ c.if-ends_row.false) o row k),
)

pub returns : goal.returns
returns c =
    c.loop-i.invariant.4 _ _
    (left_none _ _ _ _ _ _ _ c.loop-i-test.false (omega (arith, c.loop-i.invariant.0)) c.loop-i.invariant.2 (let i = c.loop-i.auto.i in omega arith))
