-- What every list of entries keeps: a statement carries the holding, what stands is in front, and every place behind it is empty, so that two holdings
-- with the same things standing are the same.
use Rattle.std.specs.Prelude.{◌-◌, ◌≡◌, ◌∷◌}
use Rattle.laws.specs.{ℕ, true, List, [], length, drop, replicate}
use Rattle.holding.specs.{Area, Holding, most_areas, most_subs, areas_of, empty_sub, opened_with}
use Rattle.statement_carried.specs.{Limits, limits, carried_within}

-- an array of so many places, of which the first `count` are taken
pub record Tidy {A : Type 0} (empty : A) (places count : ℕ) (l : List A) : Type 0 where
  pub long : length l ≡ places
  pub unused : drop count l ≡ replicate (places - count) empty

-- each element of a list has a property
unfoldable pub Each : {A : Type 0} → (A → Type 0) → List A → Type 0
Each P [] = Unit
Each P (a ∷ l) = P a × Each P l

-- with so many places for sub-areas in each area
abbrev pub TidyAreaIn : ℕ → Area → Type 0
TidyAreaIn places area = Tidy empty_sub places area.count area.subs

pub record TidyHoldingIn (places : ℕ) (holding : Holding) : Type 0 where
  pub areas : Tidy (opened_with places 0 0) most_areas holding.count holding.areas
  pub subs : Each (TidyAreaIn places) (areas_of holding)

pub record KeptWithin (most : Limits) (holding : Holding) : Type 0 where
  pub carries : carried_within most holding ≡ true
  pub tidy : TidyHoldingIn most.subs holding

-- ---- under the limits in force

abbrev pub TidyArea : Area → Type 0
TidyArea = TidyAreaIn most_subs

abbrev pub Kept : Holding → Type 0
Kept = KeptWithin limits
