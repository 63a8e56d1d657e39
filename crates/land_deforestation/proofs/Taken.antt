-- In a list that is taken, the trees that count are of nine years or more in each parcel: a clear verdict was clear at the last case.
use Rattle.std.specs.Prelude.{Ok, Err}
use Rattle.laws.proofs.{ℕ, ◌≤◌, ◌≡◌, refl, List, arith, ltb-false, eqb, ltb}
use mathlib.Core.List.{Memᴰ}
use Rattle.laws.proofs.Elements.{or_false_right, none_passes}
use Rattle.refusals.specs.{Verdict, weigh_all, smallest}
use Rattle.refusals.proofs.Laws.{clear_before, clear_last}
use Rattle.land_clearings.specs.{age_of}
use Rattle.land_parcels.specs.{Parcel, counted_of, faults_of}
use Rattle.land_deforestation.specs.{faults_among, cases, answer_of, emissions_of}

module _ (count : ℕ) (ps : List Parcel) where
  of_nine_years : smallest (cases count ps) ≡ Ok tt → (p : Parcel) → Memᴰ p ps → 9 ≤ age_of (counted_of p)
  unfolding smallest weigh_all cases faults_among faults_of
  of_nine_years e p m = ltb-false (age_of (counted_of p)) 9 (none_passes (λ q. (faults_of q).young) p ps (clear_last _ _ _ e) m)

  -- and there are at most 64
  pub few : smallest (cases count ps) ≡ Ok tt → count ≤ 64
  unfolding smallest weigh_all cases
  few e = ltb-false 64 count (or_false_right (eqb count 0) (ltb 64 count) (clear_last _ _ _ (clear_before _ _ _ (clear_before _ _ _ e))))

  pub taken_nine_years : (tonnes : ℕ) → emissions_of count ps ≡ Ok tonnes → (p : Parcel) → Memᴰ p ps → 9 ≤ age_of (counted_of p)
  unfolding emissions_of answer_of
  taken_nine_years tonnes e = go (smallest (cases count ps)) refl e
    where
      go : (v : Verdict) → smallest (cases count ps) ≡ v → answer_of v ps ≡ Ok tonnes → (p : Parcel) → Memᴰ p ps → 9 ≤ age_of (counted_of p)
      go (Err r) s e = absurd (let z : ◌≡◌ {A = ℕ} 0 1 = cc in omega arith)
      go (Ok _) s e = of_nine_years s
