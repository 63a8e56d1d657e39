-- "A refused step counts as not sent": it leaves the holding as it was, an entry by the law of entries and a read-back by its definition.
use Rattle.std.specs.Prelude.{Ok, Err}
use Rattle.laws.proofs.{ℕ, false, ◌≡◌, refl, List, arith}
use Rattle.refusals.specs.{Verdict}
use Rattle.holding.specs.{Holding}
use Rattle.theorem_accounts.specs.{is_accepted}
use Rattle.theorem_accounts.proofs.Refused.{refused_unchanged}
use Rattle.statement.specs.{Read}
use Rattle.theorem_demand_three.specs.{Step, write_answer, output_after, read_after, read_result, result_of}

pub refused-leaves : (own : List ℕ) (holding : Holding) (s : Step) → is_accepted (result_of own holding s).outcome.verdict ≡ false
    → (result_of own holding s).holding ≡ holding
unfolding result_of
refused-leaves own holding (Step.Enter on) e = refused_unchanged own holding on e
refused-leaves own holding (Step.ReadBack out) e = go read.verdict read.holding e
  where
    read : Read
    read = read_after (write_answer holding out) (output_after holding out)

    go : (v : Verdict) (read : Holding) → is_accepted (read_result holding v read).outcome.verdict ≡ false → (read_result holding v read).holding ≡ holding
    go (Ok _) read e = let z : ◌≡◌ {A = ℕ} 0 1 = cc in absurd (omega arith)
    go (Err refusal) read e = refl
