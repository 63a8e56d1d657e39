-- A T line read into 101 places: a line that is accepted has no more cells, so that its own verdict alone decides, and its cells are the front of the places.
use Rattle.std.specs.Prelude.{Ok, Err}
use Rattle.laws.proofs.{ℕ, ◌≤◌, ◌≡◌, refl, ap, ◌∙◌, List, arith, le-ltb, ltb, length, take, drop}
use lib.Seq.{take_at}
use Rattle.refusals.specs.{Refusal, Verdict, weighed, buffer_after}
use Rattle.table.specs.{longest_column}
use Rattle.line_cells.proofs.Laws.{cells_many}
use Rattle.line_column.specs.{ReadColumn, cells_of, readable, column_read}
use Rattle.line_column.proofs.Laws.{few-cells}
use Rattle.line.specs.{fields_of, as_column}
use Rattle.line.proofs.Columns.{column_cases}
use Rattle.table_grow.specs.{line_column, line_cells}

module _ (line : List ℕ) where
  few : as_column line ≡ Ok tt → length (cells_of (fields_of line)) ≤ longest_column
  few e = few-cells (fields_of line) (column_cases line e)

  room_enough : readable (as_column line) (fields_of line) longest_column ≡ as_column line
  unfolding readable weighed
  room_enough = go (as_column line) refl
    where
      go : (v : Verdict) → as_column line ≡ v → weighed v (ltb longest_column (length (cells_of (fields_of line)))) Refusal.OutputShort ≡ v
      go (Ok _) e = simp (le-ltb _ _ (few e))
      go (Err r) e = refl

-- what is read of a line into 101 places: the answer, and what they then hold
pub record Room (line room kept : List ℕ) (read : ReadColumn) : Type 0 where
  pub places : length room ≡ longest_column
  pub told : read ≡ column_read (readable (as_column line) (fields_of line) (length room)) (fields_of line)
  pub left : kept ≡ buffer_after (readable (as_column line) (fields_of line) (length room)) (line_cells line) room

module _ {line room kept : List ℕ} {read : ReadColumn} (r : Room line room kept read) where
  by_line : read ≡ column_read (as_column line) (fields_of line)
  by_line =
      r.told ∙ ap (λ (n : ℕ). column_read (readable (as_column line) (fields_of line) n) (fields_of line)) r.places
      ∙ ap (λ (v : Verdict). column_read v (fields_of line)) (room_enough line)

  verdict_of : (v : Verdict) → (column_read v (fields_of line)).verdict ≡ v
  verdict_of (Ok _) = refl
  verdict_of (Err r) = refl

  pub read-verdict : read.verdict ≡ as_column line
  read-verdict = ap (λ (x : ReadColumn). x.verdict) by_line ∙ verdict_of (as_column line)

  module _ (clear : as_column line ≡ Ok tt) where
    whole : read ≡ column_read (Ok tt) (fields_of line)
    whole = by_line ∙ ap (λ (v : Verdict). column_read v (fields_of line)) clear

    pub read_number : read.column ≡ line_column line
    unfolding line_column
    read_number = ap (λ (x : ReadColumn). x.column) whole

    pub read-few : read.count ≤ longest_column
    read-few = omega (arith, ap (λ (x : ReadColumn). x.count) whole, few line clear)

    pub read-cells : take read.count kept ≡ line_cells line
    unfolding buffer_after line_cells
    read-cells =
        ap (take read.count)
        (r.left ∙ ap (λ (n : ℕ). buffer_after (readable (as_column line) (fields_of line) n) (line_cells line) room) r.places
        ∙ ap (λ (v : Verdict). buffer_after v (line_cells line) room) (room_enough line ∙ clear))
        ∙ take_at (line_cells line) (drop (length (line_cells line)) room) read.count
        (omega (arith, cells_many (cells_of (fields_of line)), ap (λ (x : ReadColumn). x.count) whole))
