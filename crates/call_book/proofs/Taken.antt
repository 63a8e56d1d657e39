-- What a line does to a holding that is kept and a table: a refused line leaves the holding, and an accepted one keeps it; and so to a run.
use Rattle.std.specs.Prelude.{Ok, Err}
use Rattle.laws.proofs.{ℕ, ◌+◌, ◌≡◌, refl, sym, ap, subst, ◌∙◌, true, List}
use Rattle.refusals.specs.{Refusal, Verdict}
use Rattle.schedules.specs.{schedule6}
use Rattle.table.specs.{is_table}
use Rattle.line_entry.specs.{AreaAct, Entry, Parsed}
use Rattle.line.specs.{entry_of}
use Rattle.holding.specs.{Holding}
use Rattle.step_outcome.specs.{Outcome, placed}
use Rattle.step.specs.{applied}
use Rattle.step.proofs.Entered.{step_is}
use Rattle.table_grow.specs.{growable}
use Rattle.book_print.specs.{report_text, refusal_text}
use Rattle.book_listing.specs.{column_taken, entry_taken, parsed_taken, line_taken, parsed_table, table_after, Run, next, printed_for, printed}
use Rattle.theorem_keeping.specs.{Kept}
use Rattle.theorem_keeping.proofs.Answers.{refusal-leaves}
use Rattle.theorem_keeping.proofs.Keeping.{step_keeps}
use Rattle.theorem_keeping.proofs.Refused.{refused-leaves}

module _ (own : List ℕ) (holding : Holding) (table : is_table own ≡ true) where
  act_leaves : (on : AreaAct) (r : Refusal) → (applied own schedule6 holding on).verdict ≡ Err r → placed holding (applied own schedule6 holding on) ≡ holding
  act_leaves on r e = ap (placed holding) (step_is own holding on table) ∙ refused-leaves own holding on r (ap (λ (o : Outcome). o.verdict) (sym (step_is own holding on table)) ∙ e)

  pub act_kept : Kept holding → (on : AreaAct) → Kept (placed holding (applied own schedule6 holding on))
  act_kept kept on = subst (λ (o : Outcome). Kept (placed holding o)) (sym (step_is own holding on table)) (step_keeps own holding on kept)

  pub line_leaves : (line : List ℕ) (parsed : Parsed) (r : Refusal) → (parsed_taken own holding line parsed).verdict ≡ Err r
      → placed holding (parsed_taken own holding line parsed) ≡ holding
  unfolding parsed_taken entry_taken placed
  line_leaves line (Ok (Entry.Column column)) r e = refusal-leaves holding (column_taken holding.count) (growable own holding.count line) r refl e
  line_leaves line (Ok (Entry.On on)) r e = act_leaves on r e
  line_leaves line (Err s) r e = refl

-- a line's turn in the run of a book, by its verdict
module _ (run : Run) (line : List ℕ) where
  abbrev outcome : Outcome
  outcome = line_taken run.own run.holding line

  pub next-refused : (r : Refusal) → outcome.verdict ≡ Err r → placed run.holding outcome ≡ run.holding
      → next run line ≡ record { own = run.own; holding = run.holding; accepted = run.accepted; refused = run.refused + 1 }
  unfolding next table_after placed
  next-refused r e leaves = rw (e, leaves)

  pub next-accepted : (more : List ℕ) (after : Holding) → outcome.verdict ≡ Ok tt → parsed_table run.own line (entry_of line) ≡ more
      → placed run.holding outcome ≡ after → next run line ≡ record { own = more; holding = after; accepted = run.accepted + 1; refused = run.refused }
  unfolding next table_after placed
  next-accepted more after e p q = rw (e, p, q)

  pub printed-refused : (r : Refusal) → outcome.verdict ≡ Err r → printed run line ≡ refusal_text (run.accepted + run.refused + 1) r
  unfolding printed printed_for
  printed-refused r e = rw e

  pub printed-accepted : outcome.verdict ≡ Ok tt → printed run line ≡ report_text outcome.report
  unfolding printed printed_for
  printed-accepted e = rw e
