-- A sum over the groups of a slice, taken in order: past the last the sum so far is the whole, and so it is after one group more.
use Rattle.laws.proofs.{ℕ, ◌+◌, ◌<◌, ◌≤◌, ◌≡◌, List, ◌∷◌, add-one, arith, length, drop, get_or, drop-cons, drop_of_length-le}
use Rattle.laws.specs.{sum_by}

module _ {A : Type 0} (f : A → ℕ) (l : List A) (i sum whole : ℕ) (h : sum + sum_by f (drop i l) ≡ whole) where
  pub sum_end : length l ≤ i → sum ≡ whole
  unfolding sum_by
  sum_end p = omega (arith, simp (drop_of_length-le l {i = i} p) at h)

  pub sum_more : (d : A) (x : ℕ) → i < length l → x ≡ f (get_or l i d) → sum + x + sum_by f (drop (i + 1) l) ≡ whole
  unfolding sum_by
  sum_more d x p e =
      let next : drop i l ≡ get_or l i d ∷ drop (i + 1) l = rw (add-one, drop-cons l i d) in
      omega (arith, rw next at h)
