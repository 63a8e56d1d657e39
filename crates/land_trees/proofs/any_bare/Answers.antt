-- `land_trees::any_bare` meets its contract: what is asked of each group is whether it is bare land.
use Rattle.laws.proofs.{◌∙◌}
use Rattle.std.proofs.Common.{rules, tests}
use Rattle.std.proofs.lemmas.Iterator.{YieldsList-from_slice}
use Rattle.std.proofs.lemmas.Iterator.Search.{any_from_yields_List}
use Rattle.laws.proofs.Found.{any_is_some}
use Rattle.land_groups.specs.{of_type}
use Rattle.forest.specs.{Forest}
use Rattle.land_trees.proofs.any_bare.Goals as goal

pub returns : goal.returns
returns c =
    let test = of_type Forest.Bare in
    let gs = c.args.groups.now in
    any_from_yields_List test _ _ _ c.any.ensures.ran (YieldsList-from_slice gs cc) (λ x b q k. search (rules, tests)) ∙ any_is_some test gs
