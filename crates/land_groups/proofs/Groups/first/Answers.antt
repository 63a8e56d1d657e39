-- `land_groups::Groups::first` meets its contract: a list that is shorter ends before the last place.
use Rattle.laws.proofs.{ap, ◌∙◌, take}
use Rattle.std.proofs.lemmas.List.{take_min}
use Rattle.land_groups.proofs.Groups.first.Goals as goal

pub returns : goal.returns
returns c =
    let l = c.args.listed.now in
    ap (λ n. take n l) c.min.ensures ∙ take_min 64 l
