-- Demand 3 for the listing of a book, by what each line comes to: a refused one leaves the run's table and holding and prints X, an accepted T makes
-- the table longer and prints nothing, and an accepted act is a step that prints its report.
use Rattle.std.specs.Prelude.{Ok, Err}
use Rattle.laws.proofs.{ℕ, ◌+◌, ◌≡◌, refl, sym, ap, subst, ◌∙◌, Bool, true, false, cond, List, [], ◌∷◌, ◌++◌, arith, ltb, length}
use Rattle.refusals.specs.{Refusal, Verdict}
use Rattle.schedules.specs.{schedule6}
use Rattle.table.specs.{is_table}
use Rattle.line_entry.specs.{Entry, Parsed}
use Rattle.line.specs.{entry_of}
use Rattle.holding.specs.{Holding, empty_holding}
use Rattle.step_outcome.specs.{Outcome, placed}
use Rattle.step_outcome.proofs.Laws.{answered_clear}
use Rattle.step.specs.{applied}
use Rattle.statement_format.specs.{statement_of}
use Rattle.book_print.specs.{report_text, refusal_text, end_text}
use Rattle.book_listing.specs.{lines_of, column_taken, entry_taken, parsed_taken, line_taken, entry_table, parsed_table, if_accepted, Run, start, next, printed, run_from, closing, list_from, longest_book, lines_run, listing_of}
use Rattle.book_listing.proofs.Folding.{list_line, list_none}
use Rattle.book_room.proofs.Feet.{kept_foot}
use Rattle.book_room.proofs.Runs.{RunKept, start-kept, next-kept, run-kept}
use Rattle.call_book.proofs.Taken.{line_leaves, next-refused, next-accepted, printed-refused, printed-accepted}
use Rattle.theorem_running.specs.{acts_in, RunAccounted, acts_from, reports_in, BookAccounted}
use Rattle.theorem_running.proofs.Standing.{column_first}
use Rattle.theorem_running.proofs.Following.{Follows, follows_as, none_follow, column_follows, act_follows, follows_accounted}
use Rattle.theorem_running.proofs.ReportLines.{report_told, refusal_untold, foot_untold, end_untold}

-- the lines from a run on
abbrev LinesFollow : List (List ℕ) → Run → Type 0
LinesFollow lines run =
    let after = run_from run lines in
    Follows run.own run.holding after.own (acts_from run lines) (statement_of after.holding) (reports_in (list_from run lines))

module _ (run : Run) (line : List ℕ) (lines : List (List ℕ)) where
  abbrev own : List ℕ
  own = run.own

  abbrev holding : Holding
  holding = run.holding

  abbrev outcome : Outcome
  outcome = line_taken own holding line

  -- a line in front of others, by what it is read as, its verdict, the run after it and what it prints
  abbrev LineFollows : Parsed → Verdict → Run → List ℕ → Type 0
  LineFollows parsed verdict after prints =
      Follows own holding (run_from after lines).own (if_accepted verdict (acts_in parsed) [] ++ acts_from after lines)
      (statement_of (run_from after lines).holding) (reports_in (prints ++ list_from after lines))

  line_follows : (parsed : Parsed) (verdict : Verdict) (after : Run) (prints : List ℕ) → entry_of line ≡ parsed → outcome.verdict ≡ verdict
      → next run line ≡ after → printed run line ≡ prints → LineFollows parsed verdict after prints → LinesFollow (line ∷ lines) run
  unfolding run_from acts_from
  line_follows parsed verdict after prints p q r s f =
      follows_as (ap reports_in (list_line run line lines))
      (subst (λ (x : Parsed). LineFollows x outcome.verdict (next run line) (printed run line)) (sym p)
      (subst (λ (x : Verdict). LineFollows parsed x (next run line) (printed run line)) (sym q)
      (subst (λ (x : Run). LineFollows parsed verdict x (printed run line)) (sym r)
      (subst (λ (x : List ℕ). LineFollows parsed verdict after x) (sym s) f))))

  module _ (kept : RunKept run) (rest : (r : Run) → RunKept r → LinesFollow lines r) where
    rest_follow : (after : Run) → next run line ≡ after → LinesFollow lines after
    rest_follow after e = rest after (subst RunKept e (next-kept run line kept))

    refused_follows : (r : Refusal) → outcome.verdict ≡ Err r → LinesFollow (line ∷ lines) run
    unfolding line_taken
    refused_follows r e =
        let after = next-refused run line r e (line_leaves own holding kept.table line (entry_of line) r e) in
        line_follows (entry_of line) (Err r) _ _ refl e after (printed-refused run line r e)
        (follows_as (refusal_untold _ r _) (rest_follow _ after))

    module _ (clear : outcome.verdict ≡ Ok tt) where
      module _ (entry : Entry) (read : entry_of line ≡ Ok entry) where
        by_entry : outcome ≡ entry_taken own holding line entry
        unfolding line_taken parsed_taken
        by_entry = rw read

        clear_entry : (entry_taken own holding line entry).verdict ≡ Ok tt
        clear_entry = ap (λ (o : Outcome). o.verdict) (sym by_entry) ∙ clear

        -- by the table and the outcome that the entry leaves
        module _ (more : List ℕ) (o : Outcome) (p : entry_table own line entry ≡ more) (q : entry_taken own holding line entry ≡ o) where
          abbrev after : Run
          after = record { own = more; holding = placed holding o; accepted = run.accepted + 1; refused = run.refused }

          next_is : next run line ≡ after
          next_is = next-accepted run line more (placed holding o) clear (ap (parsed_table own line) read ∙ p) (ap (placed holding) (by_entry ∙ q))

          entry_follows : (LinesFollow lines after → LineFollows (Ok entry) (Ok tt) after (report_text o.report)) → LinesFollow (line ∷ lines) run
          entry_follows f =
              line_follows (Ok entry) (Ok tt) _ _ read clear next_is
              (printed-accepted run line clear ∙ ap (λ (x : Outcome). report_text x.report) (by_entry ∙ q)) (f (rest_follow after next_is))

      accepted_follows : (parsed : Parsed) → entry_of line ≡ parsed → LinesFollow (line ∷ lines) run
      unfolding entry_taken line_taken parsed_taken placed report_text
      accepted_follows (Err r) read =
          let refused = ap (λ (p : Parsed). (parsed_taken own holding line p).verdict) (sym read) ∙ clear in
          let z : ◌≡◌ {A = ℕ} 0 1 = cc in
          absurd (omega arith)
      accepted_follows (Ok (Entry.Column column)) read =
          let taken = clear_entry (Entry.Column column) read in
          entry_follows (Entry.Column column) read _ (column_taken holding.count) refl (answered_clear _ _ taken).1
          (λ f. column_follows own holding _ _ _ _ _ (column_first holding own line column taken) f)
      accepted_follows (Ok (Entry.On on)) read =
          let o = applied own schedule6 holding on in
          entry_follows (Entry.On on) read own o refl refl
          (λ f. follows_as (report_told o.report _)
          (act_follows own holding _ _ _ _ on (report_text o.report) kept.table (clear_entry (Entry.On on) read) refl f))

    one_follows : (v : Verdict) → outcome.verdict ≡ v → LinesFollow (line ∷ lines) run
    one_follows (Err r) e = refused_follows r e
    one_follows (Ok _) e = accepted_follows e (entry_of line) refl

closing_untold : (run : Run) → RunKept run → reports_in (closing run) ≡ []
closing_untold run kept =
    ap (λ (l : List ℕ). reports_in (l ++ end_text run.accepted run.refused)) (sym (kept_foot run.holding kept.holding))
    ∙ foot_untold _ _ _ (end_text run.accepted run.refused) ∙ end_untold run.accepted run.refused

lines_follow : (lines : List (List ℕ)) (run : Run) → RunKept run → LinesFollow lines run
unfolding run_from acts_from
lines_follow [] run kept = follows_as (ap reports_in (list_none run) ∙ closing_untold run kept) (none_follow run.own run.holding)
lines_follow (line ∷ lines) run kept = one_follows run line lines kept (lines_follow lines) _ refl

-- THE THEOREM: demand 3 for every book, and every area's number
pub book_accounted : (book : List ℕ) (n : ℕ) → BookAccounted book n
unfolding start listing_of lines_run run_from acts_from
book_accounted book n = go (ltb longest_book (length book))
  where
    go : (long : Bool)
        → (let lines = cond long [] (lines_of book) in
        RunAccounted (run_from start lines).own (acts_from start lines) (statement_of (run_from start lines).holding)
        (reports_in (cond long (refusal_text 0 Refusal.Form ++ end_text 0 1) (list_from start (lines_of book)))) n)
    go false = follows_accounted [] _ _ _ _ n (lines_follow (lines_of book) start start-kept)
    go true = follows_accounted [] _ _ _ _ n (follows_as (refusal_untold 0 Refusal.Form (end_text 0 1) ∙ end_untold 0 1) (none_follow [] empty_holding))

-- and the table that served is one
pub book_table : (book : List ℕ) → is_table (run_from start (lines_run book)).own ≡ true
book_table book = (run-kept (lines_run book) start start-kept).table
