-- What a search found, taken from the array.
use Rattle.std.specs.Prelude.{Some, None, Option}
use Rattle.laws.proofs.{ℕ, ◌<◌, ◌≤◌, ◌≡◌, sym, ap, ◌∙◌, length, get_or}
use lib.ListN.{get_or-eq_default}
use Rattle.laws.proofs.Standing.{get_d_same}
use Rattle.holding.specs.{Area, Holding, empty_area}
use Rattle.holding_look.specs.{Looked, area_at, looked_at}

module _ (holding : Holding) (found : Option ℕ) where
  pub area_here : (i : ℕ) (d : Area) → found ≡ Some i → i < length holding.areas → get_or holding.areas i d ≡ area_at holding found
  unfolding area_at
  area_here i d e h = rw e (get_d_same holding.areas i d empty_area h)

  pub area-out : (i : ℕ) → found ≡ Some i → length holding.areas ≤ i → empty_area ≡ area_at holding found
  unfolding area_at
  area-out i e h = rw e (sym (get_or-eq_default holding.areas empty_area h))

  pub area_nowhere : found ≡ None → empty_area ≡ area_at holding found
  unfolding area_at
  area_nowhere e = simp e

-- an area taken out of a holding, and the place where it was found
pub looked_as : (holding : Holding) (number : ℕ) (found place : Option ℕ) (area : Area) → found ≡ place → area ≡ area_at holding found
    → record { number = number; count = holding.count; found = found; area = area } ≡ looked_at holding number place
looked_as holding number found place area f a =
    let with : Area → Looked = λ x. record { number = number; count = holding.count; found = found; area = x } in
    ap with a ∙ ap (looked_at holding number) f
