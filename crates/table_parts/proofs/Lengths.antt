-- What is no column has no length, and the lengths before a column are among the first ten numbers.
use Rattle.laws.proofs.{ℕ, ◌≤◌, ◌<◌, ◌≡◌, sym, ap, ◌∙◌, List, ⊎_elim, arith, min, length, take, take_all, length-take}
use Rattle.laws.proofs.Order.{below_or_not}
use Rattle.std.proofs.lemmas.List.{take-take}
use lib.ListN.{get_or-eq_default}
use Rattle.table_parts.specs.{length_of}

module _ (table : List ℕ) (number : ℕ) where
  -- what is no column has no length
  pub no_length : 10 ≤ number → 0 ≡ length_of table number
  unfolding length_of
  no_length h = sym (get_or-eq_default (take 10 table) 0 {n = number} (simp length-take (omega arith)))

  pub past_length : length table ≤ number → 0 ≡ length_of table number
  unfolding length_of
  past_length h = sym (get_or-eq_default (take 10 table) 0 {n = number} (simp length-take (omega arith)))

  pub lengths_cut : (k : ℕ) → k ≡ min 10 number → take k table ≡ take number (take 10 table)
  lengths_cut k e = ⊎_elim few all (below_or_not number 10)
    where
      few : number < 10 → take k table ≡ take number (take 10 table)
      few h = let n : k ≡ number = omega arith in ap (λ (n : ℕ). take n table) n ∙ sym (take-take number 10 table (omega arith))

      all : 10 ≤ number → take k table ≡ take number (take 10 table)
      all h = let n : k ≡ 10 = omega arith in ap (λ (n : ℕ). take n table) n ∙ sym (take_all number (take 10 table) (omega (arith, length-take 10 table)))
