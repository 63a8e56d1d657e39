-- `step_clear::cleared_sub` meets its contract: the trees' type and age become the residue.
use Rattle.step_clear.specs.{cleared_sub}
use Rattle.step_clear.proofs.cleared_sub.Goals as goal

pub returns : goal.returns
unfolding cleared_sub
returns c = simp c.years_from-age.ensures
