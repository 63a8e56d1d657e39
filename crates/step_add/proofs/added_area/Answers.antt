-- `step_add::added_area` meets its contract: the sub-area's stock is added, for which there is room, and it takes the first free place.
use Rattle.laws.proofs.{◌≡◌, refl, ap, arith}
use Rattle.units.proofs.Sums.{kilograms, number, sum_is}
use Rattle.step_add.specs.{added_area}
use Rattle.step_add.proofs.added_area.Goals as goal

pub returns : goal.returns
unfolding added_area
returns c =
    let more = c.sub_stock-more.ensures in
    let sum = sum_is _ _ _ _ _ _ _ c.plus-after.ensures refl (ap number more.0) c.requires.1 more.1 (omega arith) in
    let added : c.plus-after.result ≡ kilograms _ = ap kilograms sum.0 in
    simp added
