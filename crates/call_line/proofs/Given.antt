-- What a call answers and leaves, from what its parts answered: a refused line decides, and else the act or the cells, with the table that they judged.
use Rattle.std.specs.Prelude.{Ok, Err}
use Rattle.laws.proofs.{ℕ, ◌≤◌, ◌≡◌, refl, sym, ap, ◌∙◌, Bool, true, false, List, arith, length, leb}
use Rattle.refusals.specs.{Refusal, Verdict, number_of, weighed, smaller, Written, written, and_then}
use Rattle.refusals.proofs.Smaller.{From, second_least}
use Rattle.table.specs.{longest_table, is_table, judged}
use Rattle.table.proofs.Judged.{judged_by}
use Rattle.table_bytes.specs.{numbers_of}
use Rattle.table_extend.specs.{begun, longer, extensible}
use Rattle.table_extend.proofs.Refused.{no_table_extends}
use Rattle.table_grow.specs.{line_column, line_cells, longer_by, growable}
use Rattle.line_entry.specs.{AreaAct, Entry, Parsed}
use Rattle.line_column.specs.{column_of}
use Rattle.line.specs.{fields_of, entry_of, as_column}
use Rattle.line.proofs.Columns.{column_entered}
use Rattle.step_outcome.proofs.Laws.{answered-verdict}
use Rattle.statement.specs.{read_of}
use Rattle.book_listing.specs.{column_taken, entry_taken}
use Rattle.call_output.specs.{table_bytes, Gives}
use Rattle.call_output.proofs.Given.{gives_refused, gives_as}
use Rattle.call_answer.specs.{table_verdict, entry_bytes, call_verdict, call_bytes, call_weighed, call_output}
use Rattle.call_answer.proofs.Order.{read-from_eleven, table_decides, entry-weighed, entry_writes}
use Rattle.call_column.specs.{cells_verdict}
use Rattle.call_step.specs.{step_outcome, step_verdict, step_bytes}
use Rattle.call_answer.proofs.TableRead.{Lent}

-- a statement that is refused has a greater number than what is no table
table-first : (v : Verdict) → From 11 v → smaller v (Err Refusal.TableColumn) ≡ Err Refusal.TableColumn
table-first (Ok _) f = refl
table-first (Err r) f =
    let h : 11 ≤ number_of r = f in sym (second_least (Err r) (Err Refusal.TableColumn) r Refusal.TableColumn refl refl (omega arith))

module _ (statement table line out : List ℕ) where
  pub call_refused : (r : Refusal) → call_verdict statement table line ≡ Err r
      → (Err r ≡ written (call_weighed statement table line (length out)) (call_bytes statement table line)) × (out ≡ call_output statement table line out)
  unfolding call_weighed call_output
  call_refused r e =
      let g = gives_refused (call_verdict statement table line) (call_bytes statement table line) out r e in (g.told, g.left)

  pub call_by : (answer : Written) (after : List ℕ) → Gives (call_verdict statement table line) (call_bytes statement table line) out answer after
      → (answer ≡ written (call_weighed statement table line (length out)) (call_bytes statement table line)) × (after ≡ call_output statement table line out)
  unfolding call_weighed call_output
  call_by answer after g = (g.told, g.left)

  -- an act on an area, under the table that was read
  pub call_step : (on : AreaAct) (own : List ℕ) (answer : Written) (after : List ℕ) → entry_of line ≡ Ok (Entry.On on) → Lent table own
      → Gives (step_verdict own statement on) (step_bytes own statement on) out answer after
      → Gives (call_verdict statement table line) (call_bytes statement table line) out answer after
  unfolding step_verdict step_bytes step_outcome entry_taken entry_bytes
  call_step on own answer after read lent given =
      let state = smaller (read_of statement).verdict (step_outcome (numbers_of table) statement on).verdict in
      gives_as
      (ap (λ (l : List ℕ). step_verdict l statement on) lent.same
      ∙ ap (λ (v : Verdict). smaller v state) lent.weighs
      ∙ sym (entry-weighed statement table line (Entry.On on) read))
      (ap (λ (l : List ℕ). step_bytes l statement on) lent.same ∙ sym (entry_writes statement table line (Entry.On on) read)) given

  -- a T line whose cells were read
  module _ (clear : as_column line ≡ Ok tt) where
    abbrev entered : Entry
    entered = Entry.Column (column_of (fields_of line))

    cells_decide : (own : List ℕ) → cells_verdict own statement (line_column line) (line_cells line)
        ≡ smaller (read_of statement).verdict (entry_taken own (read_of statement).holding line entered).verdict
    unfolding cells_verdict entry_taken growable
    cells_decide own =
        ap (smaller (read_of statement).verdict)
        (ap (λ (v : Verdict). weighed (and_then v (extensible (begun own) (line_column line) (line_cells line) longest_table))
        (leb 1 (read_of statement).holding.count) Refusal.TableAfterArea) (sym clear)
        ∙ sym (answered-verdict (growable own (read_of statement).holding.count line) (column_taken (read_of statement).holding.count) refl))

    no_table_decides : (own : List ℕ) → is_table own ≡ false
        → cells_verdict own statement (line_column line) (line_cells line) ≡ Err Refusal.TableColumn
    unfolding cells_verdict weighed
    no_table_decides own e = rw (no_table_extends (line_column line) (line_cells line) longest_table own e) (table-first (read_of statement).verdict (read-from_eleven statement))

    cells-weighed : judged (numbers_of table) ≡ table_verdict table → (t : Bool) → is_table (numbers_of table) ≡ t
        → cells_verdict (numbers_of table) statement (line_column line) (line_cells line) ≡ call_verdict statement table line
    unfolding weighed
    cells-weighed w true e =
        cells_decide (numbers_of table)
        ∙ sym (entry-weighed statement table line entered (column_entered line clear)
        ∙ ap (λ (v : Verdict). smaller v (smaller (read_of statement).verdict (entry_taken (numbers_of table) (read_of statement).holding line entered).verdict))
        (sym w ∙ judged_by (numbers_of table) true e))
    cells-weighed w false e =
        no_table_decides (numbers_of table) e
        ∙ sym (table_decides statement table line entered (column_entered line clear) Refusal.TableColumn (sym w ∙ judged_by (numbers_of table) false e))

    pub call_column : (column : ℕ) (cells own : List ℕ) (answer : Written) (after : List ℕ) → column ≡ line_column line → cells ≡ line_cells line
        → Lent table own → Gives (cells_verdict own statement column cells) (table_bytes (longer (begun own) column cells)) out answer after
        → Gives (call_verdict statement table line) (call_bytes statement table line) out answer after
    unfolding entry_bytes longer_by
    call_column column cells own answer after c d lent given =
        gives_as
        (rw (c, d, lent.same) (cells-weighed lent.weighs (is_table (numbers_of table)) refl))
        (rw (c, d, lent.same) (sym (entry_writes statement table line entered (column_entered line clear)))) given
