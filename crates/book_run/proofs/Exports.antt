-- A line's turn in an export, one law for each kind of line: it is a turn (Turns) of some outcome, by which the areas stand and the row is put.
use Rattle.std.specs.Prelude.{Ok, Err}
use Rattle.laws.proofs.{ℕ, ◌-◌, ◌≤◌, ◌≡◌, refl, sym, ap, ◌∙◌, List, [], length, take}
use Rattle.text.specs.{greatest, Wrote}
use Rattle.text.proofs.Writes.{wrote_none, wrote_as}
use Rattle.refusals.specs.{Refusal, Verdict}
use Rattle.table.specs.{longest_table}
use Rattle.line_entry.specs.{AreaAct, Entry, Parsed}
use Rattle.holding.specs.{Holding, numbers_in}
use Rattle.holding_look.specs.{Looked}
use Rattle.statement_format.specs.{texts}
use Rattle.step_outcome.specs.{Outcome, turned_back, answered, placed}
use Rattle.step.specs.{acted, applied}
use Rattle.table_grow.specs.{growable}
use Rattle.sheet_read.specs.{Row}
use Rattle.sheet_write.specs.{sheet_text}
use Rattle.book_listing.specs.{column_taken}
use Rattle.book_find.proofs.Naming.{looked_for, looked_up_lem}
use Rattle.book_column.specs.{column_numbers, column_count}
use Rattle.book_export.specs.{exported_for}
use Rattle.book_run.specs.{Turn, refusal_in}
use Rattle.book_run.proofs.Turns.{line_refused, line_column_lem, line_act}

pub record Went (own default : List ℕ) (looked : Looked) (line : List ℕ) (parsed : Parsed) (holding : Holding) (out : List ℕ) (at : ℕ) (table : List ℕ)
    (count : ℕ) (then : Holding) (after : List ℕ) (place : ℕ) : Type 0 where
  pub outcome : Outcome
  pub turn : Turn own default looked line parsed outcome table count
  pub stands : then ≡ placed holding outcome
  pub wrote : Wrote out at (sheet_text (exported_for outcome.verdict parsed line)) after place

module _ (numbers : List ℕ) (count : ℕ) (fits : count ≤ longest_table) (long : length numbers ≡ longest_table) (default : List ℕ) (holding : Holding)
    (area_numbers : List ℕ) (line : List ℕ) (parsed : Parsed) (out : List ℕ) (at : ℕ) (lent : length out ≤ greatest) (inside : at ≤ greatest) where
  abbrev own : List ℕ
  own = take count numbers

  abbrev looked : Looked
  looked = looked_for holding area_numbers parsed

  abbrev WentTo : List ℕ → ℕ → Holding → List ℕ → ℕ → Type 0
  WentTo table left then after place = Went own default looked line parsed holding out at table left then after place

  -- a row is put for no line but an act's
  none : (rows : List Row) → rows ≡ [] → Wrote out at (sheet_text rows) out at
  unfolding sheet_text texts
  none rows e = wrote_as (ap sheet_text (sym e)) (wrote_none out at lent inside)

  pub went_refused : (refusal : Refusal) → parsed ≡ Err refusal → WentTo numbers count holding out at
  unfolding placed
  went_refused refusal e = record {
    outcome = turned_back refusal;
    turn = line_refused numbers count fits long default looked line parsed _ refusal refusal e (sym (ap refusal_in e)) refl;
    stands = refl;
    wrote = none [] refl;
  }

  no_row : (v : Verdict) (column : ℕ) → exported_for v (Ok (Entry.Column column)) line ≡ []
  no_row (Ok _) column = refl
  no_row (Err refusal) column = refl

  no_place : (v : Verdict) → holding ≡ placed holding (answered v (column_taken looked.count))
  unfolding answered placed
  no_place (Ok _) = refl
  no_place (Err refusal) = refl

  pub went_column : (entry : Entry) (column : ℕ) → parsed ≡ Ok entry → entry ≡ Entry.Column column → (v : Verdict) (table : List ℕ) (left : ℕ)
      → v ≡ growable own holding.count line → table ≡ column_numbers numbers count holding.count line → left ≡ column_count numbers count holding.count line
      → WentTo table left holding out at
  went_column entry column e k v table left g t l =
      let outcome = answered v (column_taken looked.count) in
      record {
        outcome = outcome;
        turn = line_column_lem numbers count fits long default looked line parsed _ entry column v table left e k refl g t l;
        stands = no_place v;
        wrote = none _ (ap (λ (x : Parsed). exported_for outcome.verdict x line) (e ∙ ap Ok k) ∙ no_row _ column);
      }

  pub went_act : area_numbers ≡ numbers_in holding.areas → (entry : Entry) (on : AreaAct) → parsed ≡ Ok entry → entry ≡ Entry.On on
      → (v : Verdict) → v ≡ (applied (take (count - 0) numbers) default holding on).verdict
      → (then : Holding) → then ≡ placed holding (applied (take (count - 0) numbers) default holding on)
      → (after : List ℕ) (place : ℕ) → Wrote out at (sheet_text (exported_for v (Ok entry) line)) after place → WentTo numbers count then after place
  unfolding applied
  went_act n entry on e k v is then h after place w =
      let named : looked_for holding area_numbers parsed ≡ looked_for holding area_numbers (Ok (Entry.On on)) =
      ap (looked_for holding area_numbers) (e ∙ ap Ok k) in
      let row : Verdict → Parsed → List ℕ = λ x read. sheet_text (exported_for x read line) in
      let up = sym (named ∙ looked_up_lem holding area_numbers n on) in
      record {
        outcome = applied (take (count - 0) numbers) default holding on;
        turn = line_act numbers count fits long default looked line parsed _ entry on e k (ap (λ (x : Looked). acted (take (count - 0) numbers) default x on.act) up);
        stands = h;
        wrote = wrote_as (ap (row v) (sym e) ∙ ap (λ (x : Verdict). row x parsed) is) w;
      }
