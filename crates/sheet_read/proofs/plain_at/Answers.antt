-- `sheet_read::plain_at` meets its contract, by the byte.
use Rattle.sheet_read.specs.{plain_at}
use Rattle.sheet_read.proofs.plain_at.Goals as goal

pub returns-then-byte : goal.returns-then-byte
unfolding plain_at
returns-then-byte c = simp (c.if-byte.true, c.after_field.ensures)

pub returns : goal.returns
unfolding plain_at
returns c = simp (c.if-byte.false, c.after_field-2.ensures)
