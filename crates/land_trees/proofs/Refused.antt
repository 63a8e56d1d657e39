-- A refusal has the smallest number that applies: the numbers of the cases do not fall.
use Rattle.std.specs.Prelude.{Ok, Err}
use Rattle.laws.proofs.{ℕ, Bool, ◌≡◌, refl, List, arith, lit≤, length}
use Rattle.refusals.specs.{Refusal, Verdict, Case, number_of, smallest}
use Rattle.refusals.proofs.Smallest.{Least, Rising, first_is_smallest}
use Rattle.land_groups.specs.{Group}
use Rattle.land_trees.specs.{bare_in, cases, answer_of, held_of, hectare_of}

cases_rise : (count : ℕ) (bare : Bool) (gs : List Group) → Rising 0 (cases count bare gs)
unfolding Rising cases
cases_rise count bare gs = (lit≤ tt, (lit≤ tt, (lit≤ tt, (lit≤ tt, tt))))

module _ (gs : List Group) where
  abbrev all : List Case
  all = cases (length gs) (bare_in gs) gs

  pub refused-smallest : (refusal : Refusal) → hectare_of gs ≡ Err refusal → Least (number_of refusal) (cases (length gs) (bare_in gs) gs)
  unfolding hectare_of held_of answer_of
  refused-smallest refusal e = go (smallest all) refl e
    where
      go : (v : Verdict) → smallest all ≡ v → answer_of v gs ≡ Err refusal → Least (number_of refusal) all
      go (Err other) s e = let same : other ≡ refusal = cc in first_is_smallest 0 all refusal (cases_rise (length gs) (bare_in gs) gs) (cc)
      go (Ok _) s e = absurd (let z : ◌≡◌ {A = ℕ} 0 1 = cc in omega arith)
