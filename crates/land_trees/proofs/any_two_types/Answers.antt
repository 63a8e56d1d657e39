-- `land_trees::any_two_types` meets its contract: each group is set against all.
use Rattle.laws.proofs.{◌∙◌}
use Rattle.std.proofs.Common.{rules, tests}
use Rattle.std.proofs.lemmas.Iterator.{YieldsList-from_slice}
use Rattle.std.proofs.lemmas.Iterator.Search.{any_from_yields_List}
use Rattle.laws.proofs.Found.{any_is_some}
use Rattle.laws.specs.{some}
use Rattle.land_groups.specs.{Group}
use Rattle.land_trees.specs.{other_type}
use Rattle.land_trees.proofs.any_two_types.Goals as goal

pub returns : goal.returns
returns c =
    let test = (λ (g : Group). some (other_type g) c.args.groups.now) in
    let gs = c.args.groups.now in
    any_from_yields_List test _ _ _ c.any.ensures.ran (YieldsList-from_slice gs cc) (λ x b q k. search (rules, tests)) ∙ any_is_some test gs
