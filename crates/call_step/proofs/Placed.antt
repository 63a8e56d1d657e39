-- What an accepted act does with the areas: it changes the one that was looked up, or it opens one behind them all.
use Rattle.std.specs.Prelude.{Ok, Some, None, Option}
use Rattle.laws.proofs.{ℕ, ◌+◌, ◌<◌, ◌≡◌, refl, ap, ◌∙◌, true, false, List, ◌⊎◌, inl, inr, arith, not-false, leb-false}
use Rattle.refusals.specs.{Verdict, Case, smallest}
use Rattle.refusals.proofs.Laws.{RuledOut, ruled_out}
use Rattle.line_entry.specs.{Act}
use Rattle.holding.specs.{Area, most_areas}
use Rattle.holding_look.specs.{Looked, known}
use Rattle.step_outcome.specs.{Outcome, Report, accepted, answered, area_cases}
use Rattle.step_open.specs.{opened, open_cases}
use Rattle.step_add.specs.{added, add_cases}
use Rattle.step_clear.specs.{cleared, clear_cases}
use Rattle.step_plant.specs.{planted, plant_cases}
use Rattle.step_file.specs.{filed, file_cases}
use Rattle.step_withdraw.specs.{withdrawn, withdraw_cases}
use Rattle.step_outcome.proofs.Laws.{answered_clear}
use Rattle.step.specs.{acted}

pub record Moves (looked : Looked) (outcome : Outcome) : Type 0 where
  pub at : ℕ
  pub found : looked.found ≡ Some at
  pub place : outcome.place ≡ Some at
  pub count : outcome.count ≡ looked.count

pub record Opens (looked : Looked) (outcome : Outcome) : Type 0 where
  pub found : looked.found ≡ None
  pub room : looked.count < most_areas
  pub place : outcome.place ≡ Some looked.count
  pub count : outcome.count ≡ looked.count + 1

module _ (looked : Looked) where
  stands_at : (found : Option ℕ) → known found ≡ true → (i : ℕ) × (found ≡ Some i)
  stands_at (Some i) e = (i, refl)
  stands_at None e = absurd (let z : ◌≡◌ {A = ℕ} 0 1 = cc in omega arith)

  stands_nowhere : (found : Option ℕ) → known found ≡ false → found ≡ None
  stands_nowhere (Some i) e = absurd (let z : ◌≡◌ {A = ℕ} 0 1 = cc in omega arith)
  stands_nowhere None e = refl

  -- a change of the area looked up, where a clear table of cases says that it stands
  moves : (cases : List Case) (report : Report) (after : Area) → (RuledOut cases → known looked.found ≡ true)
      → let outcome = answered (smallest cases) (accepted report looked.found looked.count after) in
      outcome.verdict ≡ Ok tt → Moves looked outcome
  moves cases report after stands e =
      let outcome = accepted report looked.found looked.count after in
      let clear = answered_clear (smallest cases) outcome e in
      let here = stands_at looked.found (stands (ruled_out cases clear.0)) in
      record {
        at = here.0;
        found = here.1;
        place = ap (λ (x : Outcome). x.place) clear.1 ∙ here.1;
        count = ap (λ (x : Outcome). x.count) clear.1;
      }

  opens : (opening : ℕ) → (opened looked opening).verdict ≡ Ok tt → Opens looked (opened looked opening)
  unfolding opened open_cases
  opens opening e =
      let clear = answered_clear (smallest (open_cases looked opening)) _ e in
      let out = ruled_out (open_cases looked opening) clear.0 in
      record {
        found = stands_nowhere looked.found (out 3);
        room = leb-false most_areas looked.count (out 4);
        place = ap (λ (x : Outcome). x.place) clear.1;
        count = ap (λ (x : Outcome). x.count) clear.1;
      }

pub acted_places : (own default : List ℕ) (looked : Looked) (act : Act) → let outcome = acted own default looked act in outcome.verdict ≡ Ok tt
    → Moves looked outcome ⊎ Opens looked outcome
unfolding added add_cases cleared clear_cases planted plant_cases filed file_cases withdrawn withdraw_cases area_cases
acted_places own default looked (Act.Open opening) e = inr (opens looked opening e)
acted_places own default looked (Act.Add sub land forest year) e = inl (moves looked _ _ _ (λ out. not-false (known looked.found) (out 4)) e)
acted_places own default looked (Act.Clear sub year) e = inl (moves looked _ _ _ (λ out. not-false (known looked.found) (out 3)) e)
acted_places own default looked (Act.Plant sub forest year) e = inl (moves looked _ _ _ (λ out. not-false (known looked.found) (out 4)) e)
acted_places own default looked (Act.File last) e = inl (moves looked _ _ _ (λ out. not-false (known looked.found) (out 3)) e)
acted_places own default looked Act.Withdraw e = inl (moves looked _ _ _ (λ out. not-false (known looked.found) (out 2)) e)
