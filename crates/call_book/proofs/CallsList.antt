-- A book run line by line through the call gives the listing of `book`: after every line the program keeps the bytes of the holding and of the
-- table that the listing carries, so every call is asked what `book` asks itself, and answers and prints the same; and so is the call for the foot.
use Rattle.std.specs.Prelude.{Ok, Err}
use Rattle.laws.proofs.{ℕ, suc, ◌+◌, ◌≤◌, ◌≡◌, refl, sym, ap, subst, ◌∙◌, Bool, true, false, cond, List, [], ◌∷◌, ◌++◌, arith, length, drop, length-append, length-drop}
use lib.IntN.{pos, negsuc}
use Rattle.refusals.specs.{Refusal, Verdict}
use Rattle.table.specs.{is_table}
use Rattle.line_entry.specs.{AreaAct, Entry, Parsed}
use Rattle.line.specs.{entry_of}
use Rattle.line.proofs.Columns.{is_column}
use Rattle.holding.specs.{Holding}
use Rattle.step_outcome.specs.{Outcome, placed}
use Rattle.step_outcome.proofs.Laws.{answered_clear}
use Rattle.statement_format.specs.{statement_of}
use Rattle.table_grow.specs.{growable, longer_by}
use Rattle.book_print.specs.{report_text, refusal_text, pair_text, end_text}
use Rattle.book_foot.specs.{foot_of, most_for_foot}
use Rattle.book_listing.specs.{entry_taken, parsed_taken, line_taken, parsed_table, Run, next, printed, run_from, printed_from, closing, list_from, start}
use Rattle.statement.specs.{Read}
use Rattle.theorem_keeping.specs.{Kept}
use Rattle.theorem_keeping.proofs.Keeping.{empty_kept}
use Rattle.call_output.specs.{table_bytes, state_bytes}
use Rattle.theorem_round_trips.proofs.Trips.{accepts_that}
use Rattle.call_foot.specs.{foot_bytes}
use Rattle.call_foot.proofs.Written.{foot_read, foot_at_most}
use Rattle.call_answer.specs.{entry_bytes, parsed_bytes, call_verdict, call_bytes}
use Rattle.call_book.specs.{Caller, begin, statement_in, report_in, taken, after_call, shown_after, calls_from, caller_after, closed_by, sheet_from}
use Rattle.call_book.proofs.Split.{statement-split, report_split}
use Rattle.call_book.proofs.ColumnLines.{column_line}
use Rattle.call_book.proofs.Tables.{longer-table}
use Rattle.call_book.proofs.Taken.{line_leaves, act_kept, next-refused, next-accepted, printed-refused, printed-accepted}
use Rattle.call_book.proofs.Answers.{by_answer, by_written, refused_call, accepted_call, own-verdict, minus_number}
use Rattle.call_book.proofs.Feet.{foot_shown}

-- the program keeps what the listing carries, as bytes
record Follows (most : ℕ) (caller : Caller) (run : Run) : Type 0 where
  statement : caller.statement ≡ statement_of run.holding
  table : caller.table ≡ table_bytes run.own
  room : most ≤ length caller.out
  accepted : caller.accepted ≡ run.accepted
  refused : caller.refused ≡ run.refused
  kept : Kept run.holding
  is_own : is_table run.own ≡ true

record Matches (most : ℕ) (caller : Caller) (run : Run) (line : List ℕ) : Type 0 where
  follows : Follows most (after_call caller line) (next run line)
  prints : shown_after caller line ≡ printed run line

follows_as : {most : ℕ} {c d : Caller} {r s : Run} → c ≡ d → r ≡ s → Follows most d s → Follows most c r
follows_as {most} {c} {d} {r} {s} p q f = subst (λ (x : Caller). Follows most x r) (sym p) (subst (λ (x : Run). Follows most d x) (sym q) f)

module _ (most : ℕ) (caller : Caller) (run : Run) (f : Follows most caller run) (line : List ℕ) where
  abbrev own : List ℕ
  own = run.own

  abbrev holding : Holding
  holding = run.holding

  abbrev outcome : Outcome
  outcome = line_taken own holding line

  -- how many bytes the call needs
  abbrev needed : ℕ
  needed = length (call_bytes caller.statement caller.table line)

  refused_matches : (r : Refusal) → outcome.verdict ≡ Err r → Matches most caller run line
  unfolding line_taken refusal_text
  refused_matches r e =
      let call = refused_call own holding f.kept f.is_own caller.statement caller.table line caller.out f.statement f.table r e in
      let minus = minus_number r in
      let after = by_answer caller line caller.out (negsuc minus.0) call.1 (call.0 ∙ minus.1) in
      let leaves = line_leaves own holding f.is_own line (entry_of line) r e in
      let number : caller.accepted + caller.refused + 1 ≡ run.accepted + run.refused + 1 = omega (arith, f.accepted, f.refused) in
      record {
        follows = follows_as after.0 (next-refused run line r e leaves) (record {
          statement = f.statement;
          table = f.table;
          room = f.room;
          accepted = f.accepted;
          refused = ap (λ (n : ℕ). n + 1) f.refused;
          kept = f.kept;
          is_own = f.is_own;
        });
        prints =
            after.1 ∙ ap (λ (n : ℕ). pair_text 88 n (suc minus.0)) number
            ∙ ap (pair_text 88 (run.accepted + run.refused + 1)) minus.2 ∙ sym (printed-refused run line r e);
      }

  -- an accepted call: its output stands in front, and all of it is taken
  module _ (clear : outcome.verdict ≡ Ok tt) (enough : needed ≤ most) (entry : Entry) (read : entry_of line ≡ Ok entry) where
    abbrev written : List ℕ
    written = entry_bytes own holding line entry

    abbrev out : List ℕ
    out = written ++ drop (length written) caller.out

    accepted-after : (t : Bool) → is_column entry ≡ t
        → (after_call caller line ≡ taken caller t out written) × (shown_after caller line ≡ cond t [] (report_in written))
    accepted-after t e =
        let room : needed ≤ length caller.out = omega (arith, enough, f.room) in
        let call = accepted_call own holding f.kept f.is_own caller.statement caller.table line caller.out f.statement f.table clear room in
        let whole = ap (λ (p : Parsed). parsed_bytes own holding line p) read in
        let left = call.1 ∙ ap (λ (b : List ℕ). b ++ drop (length b) caller.out) whole in
        by_written caller line written left (call.0 ∙ ap (λ (b : List ℕ). pos (length b)) whole) t (sym (column_line line entry read) ∙ e)

    enough_room : most ≤ length out
    enough_room = omega (arith, f.room, length-append written (drop (length written) caller.out), length-drop (length written) caller.out)

    by_entry : outcome ≡ entry_taken own holding line entry
    unfolding line_taken parsed_taken
    by_entry = rw read

  column_matches : (column : ℕ) → outcome.verdict ≡ Ok tt → needed ≤ most → entry_of line ≡ Ok (Entry.Column column) → Matches most caller run line
  unfolding placed report_text entry_taken entry_bytes
  column_matches column clear enough read =
      let after = accepted-after clear enough (Entry.Column column) read true refl in
      let same = by_entry clear enough (Entry.Column column) read in
      let grown = answered_clear (growable own holding.count line) _ (ap (λ (o : Outcome). o.verdict) (sym same) ∙ clear) in
      record {
        follows = follows_as after.0
            (next-accepted run line (longer_by own line) holding clear (ap (parsed_table own line) read) (ap (placed holding) (same ∙ grown.1))) (record {
              statement = f.statement;
              table = refl;
              room = enough_room clear enough (Entry.Column column) read;
              accepted = ap (λ (n : ℕ). n + 1) f.accepted;
              refused = f.refused;
              kept = f.kept;
              is_own = longer-table own holding.count line grown.0;
            });
        prints = after.1 ∙ sym (printed-accepted run line clear ∙ ap (λ (o : Outcome). report_text o.report) (same ∙ grown.1));
      }

  act_matches : (on : AreaAct) → outcome.verdict ≡ Ok tt → needed ≤ most → entry_of line ≡ Ok (Entry.On on) → Matches most caller run line
  unfolding entry_taken entry_bytes
  act_matches on clear enough read =
      let after = accepted-after clear enough (Entry.On on) read false refl in
      let same = by_entry clear enough (Entry.On on) read in
      let whole = ap (state_bytes holding) (sym same) in
      record {
        follows = follows_as after.0 (next-accepted run line own (placed holding outcome) clear (ap (parsed_table own line) read) refl) (record {
          statement = ap statement_in whole ∙ statement-split (placed holding outcome) outcome.report;
          table = f.table;
          room = enough_room clear enough (Entry.On on) read;
          accepted = ap (λ (n : ℕ). n + 1) f.accepted;
          refused = f.refused;
          kept = subst (λ (o : Outcome). Kept (placed holding o)) (sym same) (act_kept own holding f.is_own f.kept on);
          is_own = f.is_own;
        });
        prints = after.1 ∙ ap report_in whole ∙ report_split (placed holding outcome) outcome.report ∙ sym (printed-accepted run line clear);
      }

  line_matches : (call_verdict caller.statement caller.table line ≡ Ok tt → needed ≤ most) → Matches most caller run line
  unfolding line_taken parsed_taken
  line_matches enough = by_verdict outcome.verdict refl
    where
      by_parse : (p : Parsed) → entry_of line ≡ p → outcome.verdict ≡ Ok tt → needed ≤ most → Matches most caller run line
      by_parse (Err r) e clear h =
          let turned = ap (λ (p : Parsed). (parsed_taken own holding line p).verdict) e in
          let z : ◌≡◌ {A = ℕ} 0 1 = cc in
          absurd (omega arith)
      by_parse (Ok (Entry.Column column)) e clear h = column_matches column clear h e
      by_parse (Ok (Entry.On on)) e clear h = act_matches on clear h e

      by_verdict : (v : Verdict) → outcome.verdict ≡ v → Matches most caller run line
      by_verdict (Err r) e = refused_matches r e
      by_verdict (Ok _) e =
          let same = own-verdict own holding f.kept f.is_own caller.statement caller.table line caller.out f.statement f.table in
          by_parse (entry_of line) refl e (enough (same ∙ e))

-- the bytes that a call needs are at most so many
abbrev pub Enough : ℕ → Type 0
Enough most = (statement table line : List ℕ) → call_verdict statement table line ≡ Ok tt → length (call_bytes statement table line) ≤ most

-- what a list of lines prints, and where it leaves the program
record AllFollow (most : ℕ) (caller : Caller) (run : Run) (lines : List (List ℕ)) : Type 0 where
  follows : Follows most (caller_after caller lines) (run_from run lines)
  prints : calls_from caller lines ≡ printed_from run lines

calls_follow : (most : ℕ) → Enough most → (lines : List (List ℕ)) (caller : Caller) (run : Run) → Follows most caller run → AllFollow most caller run lines
unfolding calls_from caller_after run_from printed_from
calls_follow most enough [] caller run f = record { follows = f; prints = refl }
calls_follow most enough (line ∷ lines) caller run f =
    let m = line_matches most caller run f line (enough caller.statement caller.table line) in
    let rest = calls_follow most enough lines (after_call caller line) (next run line) m.follows in
    record {
      follows = rest.follows;
      prints =
          ap (λ (t : List ℕ). t ++ calls_from (after_call caller line) lines) m.prints
          ∙ ap (λ (t : List ℕ). printed run line ++ t) rest.prints;
    }

-- the foot of the statement that the program keeps is that of the listing, and E has its counts
closed_by_lem : (most : ℕ) → most_for_foot ≤ most → (caller : Caller) (run : Run) → Follows most caller run → closed_by caller ≡ closing run
closed_by_lem most enough caller run f =
    let holding = run.holding in
    let read = accepts_that caller.statement holding f.kept (sym f.statement) in
    let clear = ap (λ (r : Read). r.verdict) read in
    let room : length (foot_bytes caller.statement) ≤ length caller.out = omega (arith, foot_at_most caller.statement clear, f.room) in
    ap (λ (t : List ℕ). t ++ end_text caller.accepted caller.refused)
    (foot_shown caller.statement caller.out clear room ∙ sym (foot_read caller.statement clear) ∙ ap (λ (r : Read). foot_of r.holding) read)
    ∙ ap (λ (n : ℕ). foot_of holding ++ end_text n caller.refused) f.accepted
    ∙ ap (λ (n : ℕ). foot_of holding ++ end_text run.accepted n) f.refused

module _ (most : ℕ) (enough : Enough most) (out : List ℕ) (room : most ≤ length out) (lines : List (List ℕ)) where
  all_follow : AllFollow most (begin [] out) start lines
  unfolding begin start table_bytes is_table
  all_follow =
      calls_follow most enough lines (begin [] out) start
      (record { statement = refl; table = refl; room = room; accepted = refl; refused = refl; kept = empty_kept; is_own = refl })

  pub calls_print : calls_from (begin [] out) lines ≡ printed_from start lines
  calls_print = all_follow.prints

  pub calls_list_within : most_for_foot ≤ most → sheet_from (begin [] out) lines ≡ list_from start lines
  unfolding list_from
  calls_list_within foot =
      ap (λ (t : List ℕ). t ++ closed_by (caller_after (begin [] out) lines)) all_follow.prints
      ∙ ap (λ (t : List ℕ). printed_from start lines ++ t) (closed_by_lem most foot (caller_after (begin [] out) lines) (run_from start lines) all_follow.follows)
