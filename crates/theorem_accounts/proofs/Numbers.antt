-- An area that was found bears the number that was looked for, and so does what an accepted step reports of it.
use Rattle.std.specs.Prelude.{Ok, Err, Some, None, Option}
use Rattle.laws.proofs.{ℕ, true, ◌≡◌, refl, sym, ap, List, arith}
use Rattle.refusals.specs.{Verdict, Case, smallest}
use Rattle.refusals.proofs.Laws.{RuledOut, ruled_out}
use Rattle.holding.specs.{Holding, areas_of, empty_area, find_area}
use Rattle.holding_look.specs.{known, area_at}
use Rattle.step_outcome.specs.{Report, Outcome, answered}
use Rattle.theorem_accounts.proofs.Keyed.{under_bears, standing_here}
use Rattle.theorem_accounts.proofs.Agreed.{area_number}

-- a report under another number
abbrev pub bearing : ℕ → Report → Report
bearing number Report.Nothing = Report.Nothing
bearing number (Report.Return filed) = Report.Return (record {
  area = number;
  first = filed.first;
  last = filed.last;
  change = filed.change;
  received = filed.received;
  due = filed.due;
  balance = filed.balance;
})
bearing number (Report.Withdrawal area due) = Report.Withdrawal number due

module _ (holding : Holding) (m : ℕ) where
  bears : (found : Option ℕ) → find_area holding m ≡ found → known found ≡ true → (area_at holding found).number ≡ m
  unfolding find_area area_at
  bears None e k = let z : ◌≡◌ {A = ℕ} 0 1 = cc in absurd (omega arith)
  bears (Some i) e k =
      under_bears area_number m (areas_of holding) _ (standing_here area_number m holding.areas holding.count i empty_area e)

  pub same_number : (cs : List Case) (f : ℕ → Outcome) → (RuledOut cs → known (find_area holding m) ≡ true)
      → answered (smallest cs) (f m) ≡ answered (smallest cs) (f (area_at holding (find_area holding m)).number)
  unfolding answered
  same_number cs f stands = go (smallest cs) refl
    where
      go : (v : Verdict) → smallest cs ≡ v → answered v (f m) ≡ answered v (f (area_at holding (find_area holding m)).number)
      go (Err refusal) e = refl
      go (Ok _) e = ap f (sym (bears (find_area holding m) refl (stands (ruled_out cs e))))
