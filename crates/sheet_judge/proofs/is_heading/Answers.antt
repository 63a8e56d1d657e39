-- `sheet_judge::is_heading` meets its contract: arrays are equal just when their bytes are the same, one by one.
use Rattle.laws.proofs.{◌∙◌, eqb}
use Rattle.text.specs.{join, join_after}
use Rattle.sheet_judge.proofs.Same.{pointwise_same}
use Rattle.sheet_judge.proofs.is_heading.Goals as goal

pub returns : goal.returns
unfolding join join_after
returns c = c.eq.ensures ∙ pointwise_same eqb _ _
