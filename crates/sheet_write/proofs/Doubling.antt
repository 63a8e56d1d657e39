-- A field is doubled byte by byte.
use Rattle.laws.proofs.{ℕ, ◌+◌, ◌≤◌, ◌<◌, ◌≡◌, refl, sym, ap, ◌∙◌, Bool, true, false, cond, List, [], ◌∷◌, ◌++◌, add-one, eqb, ne_eqb, length, get_or, drop, drop-cons, drop_of_length-le}
use Rattle.sheet_read.specs.{quote}
use Rattle.sheet_write.specs.{doubled}

pub doubled-quote : (b : ℕ) → b ≡ quote → (b ∷ []) ++ (b ∷ []) ≡ doubled (b ∷ [])
unfolding doubled
doubled-quote b e = rw e

pub doubled_other : (b : ℕ) → (b ≡ quote → ⊥) → b ∷ [] ≡ doubled (b ∷ [])
unfolding doubled
doubled_other b n = simp (ne_eqb b quote n)

doubled-first : (b : ℕ) (bs : List ℕ) → doubled (b ∷ []) ++ doubled bs ≡ doubled (b ∷ bs)
unfolding doubled
doubled-first b bs = go (eqb b quote)
  where
    go : (x : Bool) → cond x (quote ∷ quote ∷ []) (b ∷ []) ++ doubled bs ≡ cond x (quote ∷ quote ∷ doubled bs) (b ∷ doubled bs)
    go true = refl
    go false = refl

module _ (field : List ℕ) (i : ℕ) where
  pub doubled_at : i < length field → doubled (get_or field i 0 ∷ []) ++ doubled (drop (i + 1) field) ≡ doubled (drop i field)
  doubled_at h = rw (add-one) (doubled-first (get_or field i 0) _ ∙ ap doubled (sym (drop-cons field i 0 h)))

  pub doubled_none : length field ≤ i → doubled (drop i field) ≡ []
  unfolding doubled
  doubled_none h = rw (drop_of_length-le field h)
