-- A read-back of a holding that a statement carries leaves it as it was and reports nothing. Every list of steps reaches such holdings alone, so
-- its entries alone come to the same holding, are answered the same and feed the ledger the same.
use Rattle.std.specs.Prelude.{Ok, Err, None}
use Rattle.laws.proofs.{ℕ, Bool, ◌≡◌, refl, sym, ap, subst, ◌∙◌, List, [], ◌∷◌, length, drop, take-append_seam}
use Rattle.refusals.specs.{Verdict, written, buffer_after}
use Rattle.line_entry.specs.{AreaAct}
use Rattle.holding.specs.{Holding, empty_area, empty_holding}
use Rattle.step_outcome.specs.{Outcome, accepted, answered, placed, Report}
use Rattle.step.specs.{stepped}
use Rattle.step.specs.Steps as Entries
use Rattle.theorem_keeping.specs.{Kept}
use Rattle.theorem_keeping.proofs.Keeping.{step_keeps, reached-kept, empty_kept}
use Rattle.theorem_accounts.specs.{Reported, reported_with, reported_from, is_accepted}
use Rattle.theorem_accounts.specs.Feeding as Entered
use Rattle.statement_format.specs.{statement_of}
use Rattle.statement_write.specs.{writable}
use Rattle.statement.specs.{Read, read_of}
use Rattle.theorem_round_trips.proofs.Trips.{written_reads}
use Rattle.theorem_demand_three.specs.{Step, Result, read_after, read_result, result_of, holding_from, outcomes_from, fed}

module _ (own : List ℕ) (holding : Holding) (out : List ℕ) where
  unchanged : Outcome
  unchanged = accepted Report.Nothing None holding.count empty_area

  -- what a read-back gives: the write's verdict, no report, and the same holding
  back : Result
  back = record { outcome = answered (writable (statement_of holding) (length out)) unchanged; holding = holding }

  back_report : back.outcome.report ≡ Report.Nothing
  unfolding back unchanged answered
  back_report = go (writable (statement_of holding) (length out))
    where
      go : (v : Verdict) → (answered v unchanged).report ≡ Report.Nothing
      go (Ok _) = refl
      go (Err refusal) = refl

  back_verdict : back.outcome.verdict ≡ writable (statement_of holding) (length out)
  unfolding back unchanged answered
  back_verdict = go (writable (statement_of holding) (length out))
    where
      go : (v : Verdict) → (answered v unchanged).verdict ≡ v
      go (Ok _) = refl
      go (Err refusal) = refl

  module _ (kept : Kept holding) where
    read_back_is : result_of own holding (Step.ReadBack out) ≡ back
    unfolding result_of back unchanged answered written buffer_after
    read_back_is = go (writable s (length out))
      where
        s : List ℕ
        s = statement_of holding

        result : Read → Result
        result read = read_result holding read.verdict read.holding

        go : (v : Verdict) → result (read_after (written v s) (buffer_after v s out)) ≡ record { outcome = answered v unchanged; holding = holding }
        go (Ok _) = ap result (ap read_of (take-append_seam s (drop (length s) out)) ∙ written_reads holding kept)
        go (Err refusal) = refl

    pub read_back_verdict : (result_of own holding (Step.ReadBack out)).outcome.verdict ≡ writable (statement_of holding) (length out)
    read_back_verdict = ap (λ (r : Result). r.outcome.verdict) read_back_is ∙ back_verdict

    pub read_back_holding : (result_of own holding (Step.ReadBack out)).holding ≡ holding
    unfolding back
    read_back_holding = ap (λ (r : Result). r.holding) read_back_is

abbrev pub entries_of : List Step → List AreaAct
entries_of [] = []
entries_of (Step.Enter on ∷ steps) = on ∷ entries_of steps
entries_of (Step.ReadBack out ∷ steps) = entries_of steps

-- what a list of steps comes to, and what its entries alone come to
pub record SameAlone (own : List ℕ) (holding : Holding) (steps : List Step) : Type 0 where
  pub holding_is : holding_from own holding steps ≡ Entries.holding_from own holding (entries_of steps)
  pub fed_is : fed steps (outcomes_from own holding steps) ≡ Entered.fed (entries_of steps) (Entries.outcomes_from own holding (entries_of steps))
  pub reported_is : (n : ℕ) (before : Reported)
      → reported_from n before (outcomes_from own holding steps) ≡ reported_from n before (Entries.outcomes_from own holding (entries_of steps))

pub same-alone : (own : List ℕ) (holding : Holding) (steps : List Step) → Kept holding → SameAlone own holding steps
unfolding result_of holding_from outcomes_from fed Entries.holding_from Entries.outcomes_from Entered.fed reported_from reported_with back
same-alone own holding [] kept = record { holding_is = refl; fed_is = refl; reported_is = λ n before. refl }
same-alone own holding (Step.Enter on ∷ steps) kept =
    let outcome = stepped own holding on in
    let rest = same-alone own (placed holding outcome) steps (step_keeps own holding on kept) in
    record {
      holding_is = rest.holding_is;
      fed_is = ap (λ (l : List (AreaAct × Bool)). (on, is_accepted outcome.verdict) ∷ l) rest.fed_is;
      reported_is = λ n before. rest.reported_is n (reported_with n before outcome.report);
    }
same-alone own holding (Step.ReadBack out ∷ steps) kept =
    let same = read_back_is own holding out kept in
    let rest = same-alone own holding steps kept in
    record {
      holding_is = ap (λ (r : Result). holding_from own r.holding steps) same ∙ rest.holding_is;
      fed_is = ap (λ (r : Result). fed steps (outcomes_from own r.holding steps)) same ∙ rest.fed_is;
      reported_is = λ n before.
          ap (λ (r : Result). reported_from n (reported_with n before r.outcome.report) (outcomes_from own r.holding steps)) same
          ∙ ap (λ report. reported_from n (reported_with n before report) (outcomes_from own holding steps)) (back_report own holding out)
          ∙ rest.reported_is n before;
    }

-- what any list of steps reaches, a statement carries
pub steps_kept : (own : List ℕ) (steps : List Step) → Kept (holding_from own empty_holding steps)
steps_kept own steps = subst Kept (sym (same-alone own empty_holding steps empty_kept).holding_is) (reached-kept own (entries_of steps))
