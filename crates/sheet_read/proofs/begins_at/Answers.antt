-- `sheet_read::begins_at` meets its contract, by the byte.
use Rattle.laws.proofs.{eq-eqb, ne_eqb}
use Rattle.sheet_read.specs.{begins_at}
use Rattle.sheet_read.proofs.begins_at.Goals as goal

pub returns-then-byte-eq-QUOTE : goal.returns-then-byte-eq-QUOTE
unfolding begins_at
returns-then-byte-eq-QUOTE c = simp (eq-eqb _ _ c.if-byte-eq-QUOTE.true)

pub returns : goal.returns
unfolding begins_at
returns c = simp (ne_eqb _ _ c.if-byte-eq-QUOTE.false, c.plain_at.ensures)
