-- `land_trees::any_out_of_range` meets its contract: each group is asked.
use Rattle.laws.proofs.{◌∙◌}
use Rattle.std.proofs.Common.{rules, tests}
use Rattle.std.proofs.lemmas.Iterator.{YieldsList-from_slice}
use Rattle.std.proofs.lemmas.Iterator.Search.{any_from_yields_List}
use Rattle.laws.proofs.Found.{any_is_some}
use Rattle.land_trees.specs.{out_of_range}
use Rattle.land_trees.proofs.any_out_of_range.Goals as goal

pub returns : goal.returns
returns c =
    let test = out_of_range in
    let gs = c.args.groups.now in
    any_from_yields_List test _ _ _ c.any.ensures.ran (YieldsList-from_slice gs cc) (λ x b q k. search (rules, tests)) ∙ any_is_some test gs
