-- A refusal has the smallest number that applies: the numbers of the cases do not fall.
use Rattle.std.specs.Prelude.{Ok, Err}
use Rattle.laws.proofs.{ℕ, ◌≡◌, refl, List, arith, lit≤}
use Rattle.refusals.specs.{Refusal, Verdict, number_of, smallest}
use Rattle.refusals.proofs.Smallest.{Least, Rising, first_is_smallest}
use Rattle.land_parcels.specs.{Parcel}
use Rattle.land_deforestation.specs.{cases, answer_of, emissions_of}

module _ (count : ℕ) (ps : List Parcel) where
  cases_rise : Rising 0 (cases count ps)
  unfolding Rising cases
  cases_rise = (lit≤ tt, (lit≤ tt, (lit≤ tt, (lit≤ tt, (lit≤ tt, (lit≤ tt, tt))))))

  pub refused-smallest : (refusal : Refusal) → emissions_of count ps ≡ Err refusal → Least (number_of refusal) (cases count ps)
  unfolding emissions_of answer_of
  refused-smallest refusal e = go (smallest (cases count ps)) refl e
    where
      go : (v : Verdict) → smallest (cases count ps) ≡ v → answer_of v ps ≡ Err refusal → Least (number_of refusal) (cases count ps)
      go (Err other) s e = let same : other ≡ refusal = cc in first_is_smallest 0 (cases count ps) refusal cases_rise (cc)
      go (Ok _) s e = absurd (let z : ◌≡◌ {A = ℕ} 0 1 = cc in omega arith)
