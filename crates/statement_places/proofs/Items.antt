-- Lists of lines, the sub-areas of an area or the areas of a holding: if each line stands where it is read, so do all of them together. What is read
-- is put into empty places, and stands in front.
use Rattle.laws.proofs.{ℕ, zero, suc, ◌+◌, ◌≤◌, ◌<◌, ◌≡◌, refl, ap, ◌∙◌, List, ◌∷◌, ◌++◌, add-one, arith, length, take, get_or, set, replicate, sets}
use native.Mathlib.Nat.{zero-add, suc-add}
use Rattle.laws.proofs.Stores.{stored_stands}
use Rattle.statement_format.specs.{texts}
use Rattle.statement_parse.specs.{items_from}
use Rattle.statement_places.specs.{items_read, place_after}
use Rattle.statement_places.proofs.Places.{There, stands_none, stands_then}

pub after-split : (next : ℕ → ℕ) (j k at : ℕ) → place_after next (j + k) at ≡ place_after next k (place_after next j at)
unfolding place_after
after-split next zero k at = rw zero-add
after-split next (suc j) k at = rw (suc-add j k) (after-split next j k (next at))

module _ {A : Type 0} (item : ℕ → A) (next : ℕ → ℕ) where
  pub items_many : (k at : ℕ) → length (items_read item next k at) ≡ k
  unfolding items_read
  items_many zero at = refl
  items_many (suc k) at = ap suc (items_many k (next at))

  pub items_put : (k i : ℕ) (l : List A) (at : ℕ) → items_from item next k i l at ≡ (sets l i (items_read item next k at), place_after next k at)
  unfolding items_from items_read place_after
  items_put zero i l at = refl
  items_put (suc k) i l at =
      items_put k (i + 1) (set l i (item at)) (next at)
      ∙ ap (λ (j : ℕ). (sets (set l i (item at)) j (items_read item next k (next at)), place_after next k (next at))) (add-one i)

  -- j of them, and then k
  pub items_split : (j k at : ℕ) → items_read item next (j + k) at ≡ items_read item next j at ++ items_read item next k (place_after next j at)
  unfolding items_read place_after
  items_split zero k at = rw zero-add
  items_split (suc j) k at = rw (suc-add j k) (ap (λ (l : List A). item at ∷ l) (items_split j k (next at)))

  pub items_at : (k j at : ℕ) (none : A) → j < k → get_or (items_read item next k at) j none ≡ item (place_after next j at)
  unfolding items_read place_after
  items_at zero j at none h = absurd (omega arith)
  items_at (suc k) zero at none h = refl
  items_at (suc k) (suc j) at none h = items_at k j (next at) none (omega arith)

  -- items read into empty places, and the place after them
  module _ (empty : A) (places count at : ℕ) where
    abbrev pub filled : List A × ℕ
    filled = items_from item next count 0 (replicate places empty) at

    pub filled_list : filled.0 ≡ sets (replicate places empty) 0 (items_read item next count at)
    filled_list = ap (λ (x : List A × ℕ). x.0) (items_put count 0 (replicate places empty) at)

    pub filled_place : filled.1 ≡ place_after next count at
    filled_place = ap (λ (x : List A × ℕ). x.1) (items_put count 0 (replicate places empty) at)

    pub filled_stands : count ≤ places → take count filled.0 ≡ items_read item next count at
    filled_stands room = ap (take count) filled_list ∙ stored_stands empty places (items_read item next count at) count (items_many count at) room

  module _ (s : List ℕ) (text : A → List ℕ) (one : (at : ℕ) → 0 < next at → There s at (text (item at)) (next at)) where
    pub items_there : (k at : ℕ) → 0 < place_after next k at → There s at (texts text (items_read item next k at)) (place_after next k at)
    unfolding items_read place_after texts
    items_there zero at h = record { started = h; stands = stands_none s at }
    items_there (suc k) at h =
        let rest = items_there k (next at) h in
        let first = one at rest.started in
        record { started = first.started; stands = stands_then first.stands rest.stands }

    pub filled_there : (empty : A) (places count at : ℕ) → count ≤ places → 0 < (filled empty places count at).1
        → There s at (texts text (take count (filled empty places count at).0)) (filled empty places count at).1
    filled_there empty places count at room h =
        rw (filled_stands empty places count at room, filled_place empty places count at) (items_there count at (rw (filled_place empty places count at) at h))
