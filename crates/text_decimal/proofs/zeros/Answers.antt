-- `text_decimal::zeros` meets its contract. The loop's invariant: the zeros that are left make of n what all of them make of the number.
use Rattle.laws.proofs.{sym, ◌∙◌}
use Rattle.text_decimal.proofs.Laws.{zeros-next, zeros_end}
use Rattle.text_decimal.proofs.zeros.Goals as goal

pub loop-preserved : goal.loop-preserved
loop-preserved c = rw c.append-n.ensures (zeros-next _ _ _ c.loop-test.true ∙ c.loop.invariant)

pub returns : goal.returns
returns c = sym (zeros_end _ _ _ c.loop-test.false) ∙ c.loop.invariant
