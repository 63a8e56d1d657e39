-- Demand 3 for lines through the call, by what each call comes to. A refused one leaves the program's statement and table. An accepted one has read the
-- program's statement as the holding that was written, by a table that is one, and what it writes is the statement after the act and its report, or the
-- longer table.
use Rattle.std.specs.Prelude.{Ok, Err}
use Rattle.laws.proofs.{ℕ, ◌≡◌, refl, sym, ap, subst, ◌∙◌, Bool, true, false, cond, List, [], ◌∷◌, ◌++◌, arith, ltb, length, drop}
use lib.IntN.{ℤ, pos, negsuc}
use Rattle.refusals.specs.{Refusal, Verdict}
use Rattle.refusals.proofs.Laws.{clear_before}
use Rattle.schedules.specs.{schedule6}
use Rattle.table.specs.{is_table}
use Rattle.table_bytes.specs.{numbers_of}
use Rattle.line_entry.specs.{Entry, Parsed}
use Rattle.line.specs.{entry_of}
use Rattle.holding.specs.{Holding, empty_holding}
use Rattle.step_outcome.specs.{placed}
use Rattle.step.specs.{applied}
use Rattle.statement_format.specs.{statement_of}
use Rattle.statement.specs.{Read, read_of}
use Rattle.book_listing.specs.{entry_taken, parsed_taken, line_taken}
use Rattle.theorem_keeping.specs.{Kept}
use Rattle.theorem_keeping.proofs.Keeping.{empty_kept}
use Rattle.theorem_round_trips.proofs.Trips.{accepts_that}
use Rattle.call_output.specs.{with_room}
use Rattle.call_answer.specs.{entry_bytes, call_bytes, call_verdict, call_weighed}
use Rattle.call_answer.proofs.Smaller.{call_clear}
use Rattle.call_book.specs.{Caller, begin, report_in, taken, after_call, shown_after, caller_after}
use Rattle.call_book.proofs.Split.{statement-split, report_split}
use Rattle.line.proofs.Columns.{is_column}
use Rattle.call_book.proofs.ColumnLines.{column_line}
use Rattle.call_book.proofs.Taken.{act_kept}
use Rattle.call_book.proofs.Answers.{answer_refused, answer_accepted, by_answer, by_written, minus_number}
use Rattle.call_book.proofs.Bound.{table_is}
use Rattle.theorem_running.specs.{acts_in, answer_to, if_taken, sent_from, reports_from, CallsAccounted}
use Rattle.theorem_running.proofs.Standing.{column_first}
use Rattle.theorem_running.proofs.Following.{Follows, none_follow, column_follows, act_follows, follows_accounted}

-- the lines from a program on, whose statement is that of a holding
abbrev LinesFollow : List (List ℕ) → Caller → Holding → Type 0
LinesFollow lines caller holding =
    let after = caller_after caller lines in
    Follows (numbers_of caller.table) holding (numbers_of after.table) (sent_from caller lines) after.statement (reports_from caller lines)

module _ (caller : Caller) (holding : Holding) (line : List ℕ) (lines : List (List ℕ)) where
  abbrev own : List ℕ
  own = numbers_of caller.table

  abbrev verdict : Verdict
  verdict = call_weighed caller.statement caller.table line (length caller.out)

  -- a line in front of others, by what it is read as, what the call answers, what the program then is and what it shows
  abbrev LineFollows : Parsed → ℤ → Caller → List ℕ → Type 0
  LineFollows parsed answer after shows =
      Follows own holding (numbers_of (caller_after after lines).table) (if_taken answer (acts_in parsed) ++ sent_from after lines)
      (caller_after after lines).statement (if_taken answer shows ++ reports_from after lines)

  line_follows : (parsed : Parsed) (answer : ℤ) (after : Caller) (shows : List ℕ) → entry_of line ≡ parsed → answer_to caller line ≡ answer
      → (after_call caller line ≡ after) × (shown_after caller line ≡ shows) → LineFollows parsed answer after shows → LinesFollow (line ∷ lines) caller holding
  unfolding caller_after sent_from reports_from
  line_follows parsed answer after shows p q r f =
      subst (λ (x : Parsed). LineFollows x (answer_to caller line) (after_call caller line) (shown_after caller line)) (sym p)
      (subst (λ (x : ℤ). LineFollows parsed x (after_call caller line) (shown_after caller line)) (sym q)
      (subst (λ (x : Caller). LineFollows parsed answer x (shown_after caller line)) (sym r.0)
      (subst (λ (x : List ℕ). LineFollows parsed answer after x) (sym r.1) f)))

  module _ (kept : Kept holding) (written : caller.statement ≡ statement_of holding)
      (rest : (c : Caller) (h : Holding) → Kept h → c.statement ≡ statement_of h → LinesFollow lines c h) where
    refused_follows : (r : Refusal) → verdict ≡ Err r → LinesFollow (line ∷ lines) caller holding
    refused_follows r w =
        let call = answer_refused caller.statement caller.table line caller.out r w in
        let minus = minus_number r in
        let answer = call.0 ∙ minus.1 in
        line_follows (entry_of line) (negsuc minus.0) _ _ refl answer (by_answer caller line caller.out (negsuc minus.0) call.1 answer)
        (rest _ holding kept written)

    module _ (w : verdict ≡ Ok tt) where
      read_back : read_of caller.statement ≡ record { verdict = (Ok tt); holding = holding }
      read_back = accepts_that caller.statement holding kept (sym written)

      clear : call_verdict caller.statement caller.table line ≡ Ok tt
      unfolding call_weighed with_room
      clear = clear_before _ (ltb (length caller.out) (length (call_bytes caller.statement caller.table line))) Refusal.OutputShort w

      is_own : is_table own ≡ true
      is_own = table_is caller.table (call_clear caller.statement caller.table line clear).1

      clear_line : (line_taken own holding line).verdict ≡ Ok tt
      clear_line =
          ap (λ (r : Read). (line_taken own r.holding line).verdict) (sym read_back) ∙ (call_clear caller.statement caller.table line clear).3

      module _ (entry : Entry) (read : entry_of line ≡ Ok entry) where
        abbrev bytes : List ℕ
        bytes = entry_bytes own holding line entry

        abbrev out : List ℕ
        out = bytes ++ drop (length bytes) caller.out

        writes : call_bytes caller.statement caller.table line ≡ bytes
        unfolding call_bytes
        writes = rw (read_back, read)

        clear_entry : (entry_taken own holding line entry).verdict ≡ Ok tt
        unfolding line_taken parsed_taken
        clear_entry = ap (λ (p : Parsed). (parsed_taken own holding line p).verdict) (sym read) ∙ clear_line

        entry_follows : (t : Bool) → is_column entry ≡ t
            → LineFollows (Ok entry) (pos (length bytes)) (taken caller t out bytes) (cond t [] (report_in bytes)) → LinesFollow (line ∷ lines) caller holding
        entry_follows t e f =
            let call = answer_accepted caller.statement caller.table line caller.out w in
            let answer = call.0 ∙ ap (λ (b : List ℕ). pos (length b)) writes in
            let left = call.1 ∙ ap (λ (b : List ℕ). b ++ drop (length b) caller.out) writes in
            line_follows (Ok entry) (pos (length bytes)) _ _ read answer
            (by_written caller line bytes left answer t (sym (column_line line entry read) ∙ e)) f

      accepted_follows : (parsed : Parsed) → entry_of line ≡ parsed → LinesFollow (line ∷ lines) caller holding
      unfolding entry_taken entry_bytes line_taken parsed_taken
      accepted_follows (Err r) read =
          let refused = ap (λ (p : Parsed). (parsed_taken own holding line p).verdict) (sym read) ∙ clear_line in
          let z : ◌≡◌ {A = ℕ} 0 1 = cc in
          absurd (omega arith)
      accepted_follows (Ok (Entry.Column column)) read =
          entry_follows (Entry.Column column) read true refl
          (column_follows own holding _ _ _ _ _ (column_first holding own line column (clear_entry (Entry.Column column) read)) (rest _ holding kept written))
      accepted_follows (Ok (Entry.On on)) read =
          let outcome = applied own schedule6 holding on in
          let after = placed holding outcome in
          entry_follows (Entry.On on) read false refl
          (act_follows own holding _ _ _ _ on _ is_own (clear_entry (Entry.On on) read) (report_split after outcome.report)
          (rest _ after (act_kept own holding is_own kept on) (statement-split after outcome.report)))

    one_follows : (v : Verdict) → verdict ≡ v → LinesFollow (line ∷ lines) caller holding
    one_follows (Err r) w = refused_follows r w
    one_follows (Ok _) w = accepted_follows w (entry_of line) refl

lines_follow : (lines : List (List ℕ)) (caller : Caller) (holding : Holding) → Kept holding → caller.statement ≡ statement_of holding → LinesFollow lines caller holding
unfolding caller_after sent_from reports_from
lines_follow [] caller holding kept written = rw written (none_follow (numbers_of caller.table) holding)
lines_follow (line ∷ lines) caller holding kept written = one_follows caller holding line lines kept written (lines_follow lines) _ refl

-- THE THEOREM: demand 3 for every table, output and list of lines, and every area's number
pub calls_accounted : (table out : List ℕ) (lines : List (List ℕ)) (n : ℕ) → CallsAccounted table out lines n
unfolding begin
calls_accounted table out lines n = follows_accounted (numbers_of table) _ _ _ _ n (lines_follow lines (begin table out) empty_holding empty_kept refl)
