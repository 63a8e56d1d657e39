-- Lists of lines, the sub-areas of an area or the areas of a holding: if each line is read where it stands, so are all of them together, and the
-- array that they are put into is tidy.
use Rattle.laws.proofs.{ℕ, zero, suc, ◌+◌, ◌≤◌, ◌<◌, ◌≡◌, sym, ap, ◌∙◌, List, [], ◌∷◌, add-one, arith, length, set, take, replicate, sets}
use Rattle.statement_format.specs.{texts}
use Rattle.statement_parse.specs.{items_from}
use Rattle.theorem_keeping.specs.{Tidy, Each}
use Rattle.theorem_keeping.proofs.Register.{Register}
use Rattle.statement_places.proofs.Places.{Stands, stands_first, stands_rest}
use Rattle.statement_places.specs.{items_read}
use Rattle.statement_places.proofs.Items.{items_many, filled, filled_list, filled_stands}
use Rattle.theorem_round_trips.proofs.Arrays.{stored-tidy, stored_again, tidy-taken}

module _ {A : Type 0} (item : ℕ → A) (next : ℕ → ℕ) where
  items_each : (Good : A → Type 0) → ((at : ℕ) → Good (item at)) → (k at : ℕ) → Each Good (items_read item next k at)
  unfolding items_read Each
  items_each Good good zero at = tt
  items_each Good good (suc k) at = (good at, items_each Good good k (next at))

  module _ (empty : A) (places count at : ℕ) (room : count ≤ places) where
    pub filled_tidy : Tidy empty places count (filled item next empty places count at).0
    filled_tidy =
        rw (filled_list item next empty places count at)
        (stored-tidy empty places (items_read item next count at) count (items_many item next count at) room)

    pub filled_each : (Good : A → Type 0) → ((at : ℕ) → Good (item at)) → Each Good (take count (filled item next empty places count at).0)
    filled_each Good good = rw (filled_stands item next empty places count at room) (items_each Good good count at)

  module _ (s : List ℕ) (text : A → List ℕ) where
    -- what stands is read
    module _ (Good : A → Type 0) (one : (at last : ℕ) (a : A) → Good a → 0 < at → Stands s at (text a) last → (item at ≡ a) × (next at ≡ last)) where
      items_here : (xs : List A) → Each Good xs → (i : ℕ) (l : List A) (at last : ℕ) → 0 < at → Stands s at (texts text xs) last
          → items_from item next (length xs) i l at ≡ (sets l i xs, last)
      unfolding items_from texts Each
      items_here [] good i l at last started stands = let same : at ≡ last = omega (arith, stands.after) in ap (λ (p : ℕ). (l, p)) same
      items_here (a ∷ xs) good i l at last started stands =
          let behind = at + length (text a) in
          let first = one at behind a good.0 started (stands_first (text a) (texts text xs) stands) in
          ap (λ (b : A). items_from item next (length xs) (i + 1) (set l i b) (next at)) first.0
          ∙ ap (λ (p : ℕ). items_from item next (length xs) (i + 1) (set l i a) p) first.1
          ∙ items_here xs good.1 (i + 1) (set l i a) behind last (omega arith) (stands_rest (text a) (texts text xs) stands)
          ∙ ap (λ (j : ℕ). (sets (set l i a) j xs, last)) (add-one i)

      pub register_here : (number_of : A → ℕ) (empty : A) (places count : ℕ) (l : List A) → Register number_of empty Good places count l
          → (at last : ℕ) → 0 < at → Stands s at (texts text (take count l)) last
          → filled item next empty places count at ≡ (l, last)
      register_here number_of empty places count l register at last started stands =
          ap (λ (k : ℕ). items_from item next k 0 (replicate places empty) at) (sym (tidy-taken empty places count l register.room register.tidy))
          ∙ items_here (take count l) register.each 0 (replicate places empty) at last started stands
          ∙ ap (λ (m : List A). (m, last)) (stored_again empty places count l register.room register.tidy)
