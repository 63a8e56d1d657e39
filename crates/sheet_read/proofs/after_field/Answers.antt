-- `sheet_read::after_field` meets its contract, by the byte.
use Rattle.laws.proofs.{eq-eqb, ne_eqb}
use Rattle.sheet_read.specs.{after_field}
use Rattle.sheet_read.proofs.after_field.Goals as goal

pub returns-then-byte-eq44 : goal.returns-then-byte-eq44
unfolding after_field
returns-then-byte-eq44 c = simp (eq-eqb _ _ c.if-byte-eq44.true)

pub returns-then-byte-eq-CARRIAGE_RETURN : goal.returns-then-byte-eq-CARRIAGE_RETURN
unfolding after_field
returns-then-byte-eq-CARRIAGE_RETURN c = simp (ne_eqb _ _ c.if-byte-eq44.false, eq-eqb _ _ c.if-byte-eq-CARRIAGE_RETURN.true)

pub returns : goal.returns
unfolding after_field
returns c = simp (ne_eqb _ _ c.if-byte-eq44.false, ne_eqb _ _ c.if-byte-eq-CARRIAGE_RETURN.false)
