-- What an answer does to a holding: a refusal is the verdict's and leaves the holding; else no case of the table applies, and the outcome's area is placed.
use Rattle.std.specs.Prelude.{Ok, Err}
use Rattle.laws.proofs.{ℕ, ◌≡◌, refl, arith}
use Rattle.refusals.specs.{Refusal, Verdict}
use Rattle.holding.specs.{Holding}
use Rattle.step_outcome.specs.{Outcome, answered, placed}

module _ (holding : Holding) (outcome : Outcome) where
  pub answer_has : (P : Holding → Type 0) (v : Verdict) → P holding → (v ≡ Ok tt → P (placed holding outcome)) → P (placed holding (answered v outcome))
  unfolding answered placed
  answer_has P (Err r) h f = h
  answer_has P (Ok _) h f = f refl

  pub refusal-leaves : (v : Verdict) (r : Refusal) → outcome.verdict ≡ Ok tt → (answered v outcome).verdict ≡ Err r
      → placed holding (answered v outcome) ≡ holding
  unfolding answered placed
  refusal-leaves (Err s) r c e = refl
  refusal-leaves (Ok _) r c e = absurd (let z : ◌≡◌ {A = ℕ} 0 1 = cc in omega arith)

pub refusal-weighed : (outcome : Outcome) (v : Verdict) (r : Refusal) → outcome.verdict ≡ Ok tt → (answered v outcome).verdict ≡ Err r → v ≡ Err r
unfolding answered
refusal-weighed outcome (Err s) r c e = e
refusal-weighed outcome (Ok _) r c e = absurd (let z : ◌≡◌ {A = ℕ} 0 1 = cc in omega arith)
