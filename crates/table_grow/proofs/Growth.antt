-- What decides on a T line: what refuses the line as one, then what refuses the extension, and then 33 where areas stand. One law for each way out.
use Rattle.std.specs.Prelude.{Ok, Err}
use Rattle.laws.proofs.{ℕ, ◌≤◌, ◌≡◌, refl, sym, ap, ◌∙◌, subst, List, le-leb, leb, length}
use Rattle.refusals.specs.{Refusal, Verdict, weighed, Written, written, buffer_after}
use Rattle.refusals.proofs.Answers.{when_turned}
use Rattle.table.specs.{longest_table}
use Rattle.table_extend.specs.{begun, longer, extensible}
use Rattle.line_entry.specs.{Entry}
use Rattle.line.specs.{entry_of, as_column}
use Rattle.line.proofs.Columns.{column_taken_lem}
use Rattle.table_grow.specs.{line_column, line_cells, longer_by, growable}

-- what a verdict makes of an array in which a table grows
abbrev Grows : List ℕ → List ℕ → Written → List ℕ → Verdict → Type 0
Grows table numbers answer after v = (answer ≡ written v table) × (after ≡ buffer_after v table numbers)

-- ---- a column of given cells

module _ (own : List ℕ) (column : ℕ) (cells numbers : List ℕ) (long : length numbers ≡ longest_table) (areas : ℕ) where
  abbrev alone : ℕ → Verdict
  alone = extensible (begun own) column cells

  abbrev late : Verdict → Verdict
  late v = weighed v (leb 1 areas) Refusal.TableAfterArea

  abbrev By : Written → List ℕ → Verdict → Type 0
  By = Grows (longer (begun own) column cells) numbers

  none_weighs : areas ≡ 0 → (v : Verdict) → v ≡ late v
  unfolding weighed
  none_weighs h (Ok _) = rw h refl
  none_weighs h (Err r) = refl

  pub none_stands : (answer : Written) (after : List ℕ) → areas ≡ 0 → By answer after (alone (length numbers)) → By answer after (late (alone longest_table))
  none_stands answer after h g = subst (By answer after) (ap alone long ∙ none_weighs h (alone longest_table)) g

  module _ (v : Verdict) (e : v ≡ alone (length numbers)) where
    late_is : late (alone longest_table) ≡ late v
    late_is = ap late (sym (e ∙ ap alone long))

    pub table_refuses : (r : Refusal) → v ≡ Err r → By (Err r) numbers (late (alone longest_table))
    unfolding weighed
    table_refuses r k = when_turned _ _ _ r (late_is ∙ ap late k)

    pub areas_refuse : 1 ≤ areas → v ≡ Ok tt → By (Err Refusal.TableAfterArea) numbers (late (alone longest_table))
    unfolding weighed
    areas_refuse h k = when_turned _ _ _ Refusal.TableAfterArea (late_is ∙ rw (k, le-leb 1 areas h) refl)

-- ---- a line that is no T line, and one that was read

module _ (own : List ℕ) (areas : ℕ) (line : List ℕ) where
  pub no_column_lem : (numbers : List ℕ) (r : Refusal) → as_column line ≡ Err r
      → Grows (longer_by own line) numbers (Err r) numbers (growable own areas line)
  unfolding growable weighed
  no_column_lem numbers r e = when_turned _ _ _ r (rw e refl)

  pub column_read_lem : (column : ℕ) (cells numbers : List ℕ) (answer : Written) (after : List ℕ)
      → as_column line ≡ Ok tt → column ≡ line_column line → cells ≡ line_cells line
      → Grows (longer (begun own) column cells) numbers answer after (weighed (extensible (begun own) column cells longest_table) (leb 1 areas) Refusal.TableAfterArea)
      → Grows (longer_by own line) numbers answer after (growable own areas line)
  unfolding growable longer_by
  column_read_lem column cells numbers answer after v n e g = rw (v, sym n, sym e) g

  -- a line that is read as a column grows the table by it
  pub column_grows : (column : ℕ) → entry_of line ≡ Ok (Entry.Column column)
      → (growable own areas line ≡ weighed (extensible (begun own) column (line_cells line) longest_table) (leb 1 areas) Refusal.TableAfterArea)
      × (longer_by own line ≡ longer (begun own) column (line_cells line))
  unfolding growable longer_by line_column
  column_grows column e = let taken = column_taken_lem line column e in (rw (taken.0, taken.1) refl, rw taken.1 refl)
