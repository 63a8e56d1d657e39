-- Acts that are all accepted, one after the other: said of the acts, of what they answered, and as steps of demand 3.
use Rattle.std.specs.Prelude.{Ok, Err}
use Rattle.laws.proofs.{ℕ, true, ◌≡◌, refl, ap, List, [], ◌∷◌, ◌++◌, arith}
use Rattle.laws.specs.{every}
use Rattle.laws.proofs.Lists.{and_left, and_right, both}
use Rattle.refusals.specs.{Verdict}
use Rattle.line_entry.specs.{AreaAct}
use Rattle.holding.specs.{Holding}
use Rattle.step_outcome.specs.{Outcome, placed}
use Rattle.step.specs.{stepped, holding_from, outcomes_from}
use Rattle.theorem_accounts.specs.{is_accepted}
use Rattle.theorem_demand_three.specs.{Step, result_of}
use Rattle.theorem_demand_three.specs.Steps as Demand
use Rattle.theorem_running.specs.{enter_each, all_accepted}

-- an act that is accepted on a holding, and the holding after it
abbrev pub Accepts : List ℕ → Holding → AreaAct → Type 0
Accepts own holding on = (stepped own holding on).verdict ≡ Ok tt

abbrev pub after_act : List ℕ → Holding → AreaAct → Holding
after_act own holding on = placed holding (stepped own holding on)

-- each act is accepted on the holding that the last left
unfoldable pub Taken : List ℕ → Holding → List AreaAct → Type 0
Taken own holding [] = Unit
Taken own holding (on ∷ acts) = Accepts own holding on × Taken own (after_act own holding on) acts

was_accepted : (v : Verdict) → is_accepted v ≡ true → v ≡ Ok tt
was_accepted (Ok _) e = refl
was_accepted (Err r) e = absurd (let z : ◌≡◌ {A = ℕ} 0 1 = cc in omega arith)

module _ (own : List ℕ) where
  pub taken_all : (holding : Holding) (acts : List AreaAct) → Taken own holding acts → all_accepted (outcomes_from own holding acts) ≡ true
  unfolding Taken outcomes_from every
  taken_all holding [] t = refl
  taken_all holding (on ∷ acts) t = both _ _ (ap is_accepted t.0) (taken_all (after_act own holding on) acts t.1)

  pub all_taken : (holding : Holding) (acts : List AreaAct) → all_accepted (outcomes_from own holding acts) ≡ true → Taken own holding acts
  unfolding Taken outcomes_from every
  all_taken holding [] e = tt
  all_taken holding (on ∷ acts) e =
      let outcome = stepped own holding on in
      let rest = all_accepted (outcomes_from own (placed holding outcome) acts) in (
        was_accepted outcome.verdict (and_left (is_accepted outcome.verdict) rest e),
        all_taken (placed holding outcome) acts (and_right (is_accepted outcome.verdict) rest e),
      )

  -- acts entered as steps of demand 3 are answered the same, and leave the same holding
  pub entered_outcomes : (holding : Holding) (acts : List AreaAct) → Demand.outcomes_from own holding (enter_each acts) ≡ outcomes_from own holding acts
  unfolding outcomes_from Demand.outcomes_from result_of
  entered_outcomes holding [] = refl
  entered_outcomes holding (on ∷ acts) = ap (λ (l : List Outcome). stepped own holding on ∷ l) (entered_outcomes (after_act own holding on) acts)

  pub entered-holding : (holding : Holding) (acts : List AreaAct) → Demand.holding_from own holding (enter_each acts) ≡ holding_from own holding acts
  unfolding holding_from Demand.holding_from result_of
  entered-holding holding [] = refl
  entered-holding holding (on ∷ acts) = entered-holding (after_act own holding on) acts

  -- steps behind others
  pub steps_behind : (holding : Holding) (steps later : List Step)
      → Demand.holding_from own holding (steps ++ later) ≡ Demand.holding_from own (Demand.holding_from own holding steps) later
  unfolding Demand.holding_from
  steps_behind holding [] later = refl
  steps_behind holding (s ∷ steps) later = steps_behind (result_of own holding s).holding steps later
