-- A turn of the loops that read sub-areas and areas: what is left to read, from here on, gives what all of it gives from the start.
use Rattle.laws.proofs.{ℕ, suc, ◌+◌, ◌-◌, ◌≤◌, ◌<◌, ◌≡◌, List, arith, set}
use Rattle.statement_parse.specs.{items_from}

module _ {A : Type 0} (item : ℕ → A) (next : ℕ → ℕ) (count i : ℕ) (l : List A) (at : ℕ) where
  pub items_more : (a : A) (after : ℕ) → i < count → a ≡ item at → after ≡ next at
      → items_from item next (count - (i + 1)) (i + 1) (set l i a) after ≡ items_from item next (count - i) i l at
  unfolding items_from
  items_more a after h e f = let left : count - i ≡ suc (count - (i + 1)) = omega arith in rw (left, e, f)

  pub items_done : count ≤ i → (l, at) ≡ items_from item next (count - i) i l at
  unfolding items_from
  items_done h = let none : count - i ≡ 0 = omega arith in rw none
