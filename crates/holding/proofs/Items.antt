-- A list gone through item by item, as what stands of an area or of a holding is: what came so far and what is left make the whole.
-- For each, what holds at the end, and after one item more.
use Rattle.std.specs.List.{list_any, list_all}
use Rattle.std.proofs.lemmas.List.{at_drop_more, at_drop_all}
use Rattle.std.proofs.lemmas.List.Recursion.{same_from_clauses}
use Rattle.laws.proofs.{ℕ, ◌+◌, ◌<◌, ◌≤◌, ◌≡◌, refl, sym, ◌∙◌, Bool, not, ◌&&◌, ◌||◌, List, arith, eqb, length, drop, get_or}
use Rattle.laws.specs.{some, every, distinct, sum_by}
use Rattle.laws.proofs.Turns.{and_none, and_assoc}

module _ {A : Type 0} (f : A → ℕ) (l : List A) (i sum whole : ℕ) (h : sum + sum_by f (drop i l) ≡ whole) where
  pub sum_end : length l ≤ i → sum ≡ whole
  unfolding sum_by
  sum_end p = omega (arith, at_drop_all (sum_by f) l i p)

  pub sum_more : (d : A) (x : ℕ) → i < length l → x ≡ f (get_or l i d) → sum + x + sum_by f (drop (i + 1) l) ≡ whole
  unfolding sum_by
  sum_more d x p e = omega (arith, at_drop_more (sum_by f) l i d p)

module _ {A : Type 0} (test : A → Bool) (l : List A) (i : ℕ) (kept whole : Bool) (h : (kept && every test (drop i l)) ≡ whole) where
  pub every_end : length l ≤ i → kept ≡ whole
  unfolding every
  every_end p = sym (and_none kept) ∙ (rw (at_drop_all (every test) l i p) at h)

  pub every_more : (d : A) (t : Bool) → i < length l → t ≡ test (get_or l i d) → ((kept && t) && every test (drop (i + 1) l)) ≡ whole
  unfolding every
  every_more d t p e = rw e (and_assoc kept (test (get_or l i d)) (every test (drop (i + 1) l)) ∙ (rw (at_drop_more (every test) l i d p) at h))

module _ {A : Type 0} (number_of : A → ℕ) (l : List A) (i : ℕ) (apart whole : Bool) (h : (apart && distinct number_of (drop i l)) ≡ whole) where
  pub distinct_end : length l ≤ i → apart ≡ whole
  unfolding distinct
  distinct_end p = sym (and_none apart) ∙ (rw (at_drop_all (distinct number_of) l i p) at h)

  pub distinct_more : (d : A) (again : Bool) → i < length l → again ≡ some (λ b. eqb (number_of b) (number_of (get_or l i d))) (drop (i + 1) l)
      → ((apart && not again) && distinct number_of (drop (i + 1) l)) ≡ whole
  unfolding distinct
  distinct_more d again p e =
      rw e (and_assoc apart (not (some (λ b. eqb (number_of b) (number_of (get_or l i d))) (drop (i + 1) l))) (distinct number_of (drop (i + 1) l))
      ∙ (rw (at_drop_more (distinct number_of) l i d p) at h))

-- the library's tests of some and of all are the definitions'
module _ {A : Type 0} (test : A → Bool) where
  pub any_is_some : (l : List A) → list_any test l ≡ some test l
  unfolding some
  any_is_some = same_from_clauses (list_any test) (some test) (λ x b. test x || b) refl (λ _ _. refl) (λ _ _. refl)

  pub all_is_every : (l : List A) → list_all test l ≡ every test l
  unfolding every
  all_is_every = same_from_clauses (list_all test) (every test) (λ x b. test x && b) refl (λ _ _. refl) (λ _ _. refl)
