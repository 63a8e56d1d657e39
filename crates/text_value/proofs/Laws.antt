-- A number that is not outside a range: its value is in the range, and fits where the range does.
use Rattle.std.specs.Prelude.{Ok, Err, Result}
use Rattle.std.specs.Result.{OkIff, result_unwrap_or}
use Rattle.laws.proofs.Order.{below_or_not}
use Rattle.laws.proofs.{ℕ, ⊎_elim, ◌<◌, ◌≤◌, ◌≡◌, refl, sym, ◌∙◌, Bool, true, false, ◌||◌, arith, le-ltb, lt-ltb, ◌+◌, ltb-false, ltb}
use Rattle.text_number.specs.{Number, Unread}
use Rattle.text_value.specs.{outside, value_of, fitted}

pub inside : (low high : ℕ) (n : Number) → outside low high n ≡ false → (low ≤ value_of n) × (value_of n ≤ high)
inside low high (Ok v) e = go (ltb v low) refl (ltb high v) refl e
  where
    go : (x : Bool) → ltb v low ≡ x → (y : Bool) → ltb high v ≡ y → x || y ≡ false → (low ≤ v) × (v ≤ high)
    go true p y q e = let z : ◌≡◌ {A = ℕ} 0 1 = cc in absurd (omega arith)
    go false p true q e = let z : ◌≡◌ {A = ℕ} 0 1 = cc in absurd (omega arith)
    go false p false q e = (ltb-false v low p, ltb-false high v q)
inside low high (Err Unread.Large) e = let z : ◌≡◌ {A = ℕ} 0 1 = cc in absurd (omega arith)
inside low high (Err Unread.Malformed) e = let z : ◌≡◌ {A = ℕ} 0 1 = cc in absurd (omega arith)

pub in_range : (low high : ℕ) (n : Number) (v : ℕ) → n ≡ Ok v → low ≤ v → v ≤ high → outside low high n ≡ false
in_range low high n v e l h = rw e (simp (le-ltb v low l, le-ltb high v h))

-- a number within a range that fits has its value
pub fitted_is : (low high greatest : ℕ) (n : Number) → high ≤ greatest → outside low high n ≡ false → fitted greatest n ≡ value_of n
unfolding fitted
fitted_is low high greatest (Ok v) h e = let i = inside low high (Ok v) e in simp (in_range 0 greatest (Ok v) v refl (omega arith) (omega arith))
fitted_is low high greatest (Err Unread.Large) h e = let z : ◌≡◌ {A = ℕ} 0 1 = cc in absurd (omega arith)
fitted_is low high greatest (Err Unread.Malformed) h e = let z : ◌≡◌ {A = ℕ} 0 1 = cc in absurd (omega arith)

-- the value, or 0, turned into a type whose numbers go up to the greatest
pub converted : {E : Type 0} (greatest : ℕ) (n : Number) (v : ℕ) (r : Result ℕ E) → v ≡ result_unwrap_or n 0 → OkIff r (v < greatest + 1) v
    → result_unwrap_or r 0 ≡ fitted greatest n
unfolding fitted
converted greatest (Ok v) w (Ok x) e h = h.1 ∙ e ∙ sym (simp (in_range 0 greatest (Ok v) v refl (omega arith) (omega (arith, h.0, e))))
converted greatest (Err unread) w (Ok x) e h = h.1 ∙ e
converted greatest (Ok v) w (Err why) e h =
    ⊎_elim (λ large. simp (le-ltb v 0 (omega arith), lt-ltb greatest v large)) (λ small. absurd (h (omega (arith, e)))) (below_or_not greatest v)
converted greatest (Err unread) w (Err why) e h = refl
