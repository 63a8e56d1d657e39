-- `land_trees::two_types` meets its contract: each group is set against the one.
use Rattle.laws.proofs.{◌∙◌}
use Rattle.std.proofs.Common.{rules, tests}
use Rattle.std.proofs.lemmas.Iterator.{YieldsList-from_slice}
use Rattle.std.proofs.lemmas.Iterator.Search.{any_from_yields_List}
use Rattle.laws.proofs.Found.{any_is_some}
use Rattle.land_trees.specs.{other_type}
use Rattle.land_trees.proofs.two_types.Goals as goal

pub returns : goal.returns
returns c =
    let test = other_type c.args.g.now in
    let gs = c.args.groups.now in
    any_from_yields_List test _ _ _ c.any.ensures.ran (YieldsList-from_slice gs cc) (λ x b q k. search (rules, tests)) ∙ any_is_some test gs
