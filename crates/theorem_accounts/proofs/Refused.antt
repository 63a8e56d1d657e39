-- "A refused step counts as not sent": it leaves the holding as it was, so the accepted entries alone come to the same holding and are
-- answered the same.
use Rattle.std.specs.Prelude.{Ok, Err, Option}
use Rattle.laws.proofs.{ℕ, Bool, true, false, cond, ◌≡◌, refl, sym, ap, subst, ◌∙◌, List, [], ◌∷◌, map, arith}
use Rattle.laws.specs.{keep}
use Rattle.refusals.specs.{Verdict}
use Rattle.schedules.specs.{schedule6}
use Rattle.table.specs.{is_table}
use Rattle.line_entry.specs.{Act, AreaAct}
use Rattle.holding.specs.{Area, Holding}
use Rattle.holding_look.specs.{Looked}
use Rattle.step_outcome.specs.{Report, Outcome, accepted, answered, placed}
use Rattle.step_open.specs.{opened}
use Rattle.step_add.specs.{added}
use Rattle.step_clear.specs.{cleared}
use Rattle.step_plant.specs.{planted}
use Rattle.step_file.specs.{filed}
use Rattle.step_withdraw.specs.{withdrawn}
use Rattle.step.specs.{acted, applied, stepped, holding_from, outcomes_from}
use Rattle.step.proofs.Entered.{step_is, step_turned}
use Rattle.theorem_accounts.specs.{is_accepted, fed, accepted_of}

-- an accepted step is told by its outcome
abbrev taken : Outcome → Bool
taken outcome = is_accepted outcome.verdict

module _ (own : List ℕ) (holding : Holding) where
  Unplaced : Outcome → Type 0
  Unplaced outcome = taken outcome ≡ false → placed holding outcome ≡ holding

  answered-refused : (v : Verdict) (report : Report) (place : Option ℕ) (count : ℕ) (area : Area) → Unplaced (answered v (accepted report place count area))
  unfolding Unplaced answered placed
  answered-refused (Err refusal) report place count area e = refl
  answered-refused (Ok _) report place count area e = let z : ◌≡◌ {A = ℕ} 0 1 = cc in absurd (omega arith)

  acted-refused : (looked : Looked) (act : Act) → Unplaced (acted own schedule6 looked act)
  unfolding opened added cleared planted filed withdrawn
  acted-refused looked (Act.Open opening) = answered-refused _ _ _ _ _
  acted-refused looked (Act.Add sub land forest year) = answered-refused _ _ _ _ _
  acted-refused looked (Act.Clear sub year) = answered-refused _ _ _ _ _
  acted-refused looked (Act.Plant sub forest year) = answered-refused _ _ _ _ _
  acted-refused looked (Act.File last) = answered-refused _ _ _ _ _
  acted-refused looked Act.Withdraw = answered-refused _ _ _ _ _

  pub refused_unchanged : (e : AreaAct) → taken (stepped own holding e) ≡ false → placed holding (stepped own holding e) ≡ holding
  unfolding applied Unplaced placed
  refused_unchanged e = go (is_table own) refl
    where
      go : (t : Bool) → is_table own ≡ t → Unplaced (stepped own holding e)
      go true table = subst Unplaced (step_is own holding e table) (acted-refused _ e.act)
      go false table = step_turned own holding e Unplaced table (λ refusal few q. refl)

-- what a list of entries comes to, and what its accepted entries alone come to
pub record SameSent (own : List ℕ) (holding : Holding) (es sent : List AreaAct) : Type 0 where
  pub holding_is : holding_from own holding sent ≡ holding_from own holding es
  pub outcomes_are : outcomes_from own holding sent ≡ keep taken (outcomes_from own holding es)

pub refused_not_sent : (own : List ℕ) (es : List AreaAct) (holding : Holding) → SameSent own holding es (accepted_of (fed es (outcomes_from own holding es)))
unfolding holding_from outcomes_from fed accepted_of keep
refused_not_sent own [] holding = record { holding_is = refl; outcomes_are = refl }
refused_not_sent own (e ∷ es) holding = go (taken o) refl (refused_not_sent own es (placed holding o))
  where
    o : Outcome
    o = stepped own holding e

    sent : List (AreaAct × Bool)
    sent = keep (λ (s : AreaAct × Bool). s.1) (fed es (outcomes_from own (placed holding o) es))

    entries : List (AreaAct × Bool) → List AreaAct
    entries steps = map (λ (s : AreaAct × Bool). s.0) steps

    unmoved : taken o ≡ false → (l : List AreaAct) → SameSent own (placed holding o) es l
        → (holding_from own holding l ≡ holding_from own (placed holding o) es)
        × (outcomes_from own holding l ≡ keep taken (outcomes_from own (placed holding o) es))
    unmoved t l h =
        let q = sym (refused_unchanged own holding e t) in
        (ap (λ (x : Holding). holding_from own x l) q ∙ h.holding_is, ap (λ (x : Holding). outcomes_from own x l) q ∙ h.outcomes_are)

    go : (t : Bool) → taken o ≡ t → SameSent own (placed holding o) es (entries sent)
        → SameSent own holding (e ∷ es) (entries (cond t ((e, taken o) ∷ sent) sent))
    go true t h = record { holding_is = h.holding_is; outcomes_are = rw t (ap (λ (l : List Outcome). o ∷ l) h.outcomes_are) }
    go false t h = let u = unmoved t (entries sent) h in record { holding_is = u.0; outcomes_are = rw t u.1 }
