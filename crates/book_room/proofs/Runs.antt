-- Every line leaves a table and a holding that a statement carries: an entry by the laws of its letter, T by the longer table, and a refused line nothing.
use Rattle.std.specs.Prelude.{Ok, Err}
use Rattle.laws.proofs.{ℕ, ◌*◌, ◌+◌, ◌≤◌, true, ◌≡◌, refl, sym, subst, List, [], ◌∷◌, arith, length}
use Rattle.book_room.specs.{most_for_byte}
use Rattle.refusals.specs.{Verdict}
use Rattle.schedules.specs.{schedule6}
use Rattle.table.specs.{is_table, longest_table}
use Rattle.table_extend.specs.{begun}
use Rattle.line_entry.specs.{AreaAct, Entry, Parsed}
use Rattle.line.specs.{entry_of}
use Rattle.holding.specs.{Holding}
use Rattle.step_outcome.specs.{Outcome, answered, placed}
use Rattle.step_outcome.proofs.Laws.{answered_clear}
use Rattle.step.specs.{applied}
use Rattle.step.proofs.Entered.{step_is}
use Rattle.table_grow.specs.{line_column, line_cells, longer_by}
use Rattle.table_grow.proofs.Fits.{grown_extensible}
use Rattle.book_print.specs.{report_text}
use Rattle.book_listing.specs.{column_taken, entry_taken, parsed_taken, line_taken, entry_table, parsed_table, if_accepted, table_after, Run, start, next, run_from}
use Rattle.theorem_keeping.specs.{Kept}
use Rattle.theorem_keeping.proofs.Areas.{kept-areas}
use Rattle.theorem_keeping.proofs.Keeping.{step_keeps, empty_kept}
use Rattle.table_extend.proofs.Kept.{extended_table}
use Rattle.book_room.proofs.Widths.{most_printed_by, entry_wide}
use Rattle.book_room.proofs.Reports.{applied-length}

module _ (own : List ℕ) (table : is_table own ≡ true) (holding : Holding) (kept : Kept holding) (line : List ℕ) where
  applied_keeps : (on : AreaAct) → Kept (placed holding (applied own schedule6 holding on))
  applied_keeps on = subst (λ (outcome : Outcome). Kept (placed holding outcome)) (sym (step_is own holding on table)) (step_keeps own holding on kept)

  column_leaves : (v : Verdict) → placed holding (answered v (column_taken holding.count)) ≡ holding
  unfolding answered placed
  column_leaves (Ok _) = refl
  column_leaves (Err r) = refl

  entry_keeps : (entry : Entry) → Kept (placed holding (entry_taken own holding line entry))
  unfolding entry_taken
  entry_keeps (Entry.Column column) = subst Kept (sym (column_leaves _)) kept
  entry_keeps (Entry.On on) = applied_keeps on

  parsed_keeps : (p : Parsed) → Kept (placed holding (parsed_taken own holding line p))
  unfolding parsed_taken placed
  parsed_keeps (Ok entry) = entry_keeps entry
  parsed_keeps (Err r) = kept

  pub line_keeps : Kept (placed holding (line_taken own holding line))
  unfolding line_taken
  line_keeps = parsed_keeps (entry_of line)

  -- the table after a line whose verdict it is
  table_or : (v : Verdict) (new : List ℕ) → (v ≡ Ok tt → is_table new ≡ true) → is_table (if_accepted v new own) ≡ true
  table_or (Ok _) new f = f refl
  table_or (Err r) new f = table

  entry_table_lem : (entry : Entry) → (entry_taken own holding line entry).verdict ≡ Ok tt → is_table (entry_table own line entry) ≡ true
  unfolding entry_taken longer_by
  entry_table_lem (Entry.Column column) e =
      extended_table (begun own) (line_column line) (line_cells line) longest_table (grown_extensible own holding.count line (answered_clear _ _ e).0).1
  entry_table_lem (Entry.On on) e = table

  parsed_table_lem : (p : Parsed) → (parsed_taken own holding line p).verdict ≡ Ok tt → is_table (parsed_table own line p) ≡ true
  unfolding parsed_taken
  parsed_table_lem (Ok entry) e = entry_table_lem entry e
  parsed_table_lem (Err r) e = table

  column_silent : (v : Verdict) → length (report_text (answered v (column_taken holding.count)).report) ≤ 0
  unfolding answered report_text
  column_silent (Ok _) = omega arith
  column_silent (Err r) = omega arith

  entry_length : (entry : Entry) → length (report_text (entry_taken own holding line entry).report) ≤ most_printed_by entry
  unfolding entry_taken
  entry_length (Entry.Column column) = column_silent _
  entry_length (Entry.On on) = applied-length own table holding (kept-areas holding kept) on

  -- what a line reports is at most 11 bytes for each of its own and its end
  pub line_length : length (report_text (line_taken own holding line).report) ≤ most_for_byte * (length line + 1)
  unfolding line_taken parsed_taken report_text
  line_length = go (entry_of line) refl
    where
      go : (p : Parsed) → entry_of line ≡ p → length (report_text (parsed_taken own holding line p).report) ≤ most_for_byte * (length line + 1)
      go (Ok entry) e = omega (arith, entry_length entry, entry_wide line entry e)
      go (Err r) e = omega arith

-- what every line keeps of a run
pub record RunKept (run : Run) : Type 0 where
  pub table : is_table run.own ≡ true
  pub holding : Kept run.holding

pub start-kept : RunKept start
unfolding start is_table
start-kept = record { table = refl; holding = empty_kept }

pub next-kept : (run : Run) (line : List ℕ) → RunKept run → RunKept (next run line)
unfolding next table_after line_taken
next-kept run line k =
    let own = run.own in
    let holding = run.holding in
    record {
      table =
          table_or own k.table holding k.holding line (parsed_taken own holding line (entry_of line)).verdict (parsed_table own line (entry_of line))
          (parsed_table_lem own k.table holding k.holding line (entry_of line));
      holding = parsed_keeps own k.table holding k.holding line (entry_of line);
    }

pub run-kept : (lines : List (List ℕ)) (run : Run) → RunKept run → RunKept (run_from run lines)
unfolding run_from
run-kept [] run kept = kept
run-kept (line ∷ lines) run kept = run-kept lines (next run line) (next-kept run line kept)
