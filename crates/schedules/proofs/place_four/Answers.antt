-- `schedules::place_four` meets its contract: the constant's places are the columns', which antt computes.
use Rattle.laws.proofs.{ap, ℕ, ◌∷◌, get_or}
use Rattle.schedules.specs.{no_place, places_from, stock4, place_four}
use Rattle.schedules.proofs.place_four.Goals as goal

pub returns : goal.returns
unfolding place_four places_from stock4
returns c = ap (λ (k : ℕ). get_or (no_place ∷ places_from 0 stock4) k no_place) c.order-k.ensures
