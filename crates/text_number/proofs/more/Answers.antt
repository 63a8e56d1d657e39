-- `text_number::more` meets its contract. The loop's invariant: the bytes that are left make of n what all of them make of the number.
use Rattle.laws.proofs.{sym, ◌∙◌}
use Rattle.text_number.proofs.Laws.{more-next, more_end}
use Rattle.text_number.proofs.more.Goals as goal

pub loop-byte-preserved : goal.loop-byte-preserved
loop-byte-preserved c = rw c.append-n.ensures (more-next _ _ _ c.loop-byte-test.true ∙ c.loop-byte.invariant)

pub returns : goal.returns
returns c = sym (more_end _ _ _ c.loop-byte-test.false) ∙ c.loop-byte.invariant
