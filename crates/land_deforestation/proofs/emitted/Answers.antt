-- `land_deforestation::emitted` meets its contract: it is what its calls give.
use Rattle.land_deforestation.specs.{emitted_of}
use Rattle.land_deforestation.proofs.emitted.Goals as goal

pub returns : goal.returns
unfolding emitted_of
returns c =
    let b = c in
    (simp (c.trees.ensures.0, c.rounded.ensures, b.rate_four-rate.ensures, b.age.ensures, b.counted-counted.ensures), c.trees.ensures.1)
