-- "T,kind,type,cells: kind G (stock) or R (residue); type P, D, S, H or N; 1 to 101 cells, each a number with at most one decimal, at most 3000."
use Rattle.std.specs.Prelude.{◌∷◌, Ok, Err}
use Rattle.laws.specs.{code, ℕ, not, List, [], leb, ltb, length, drop}
use Rattle.table.specs.{longest_column}
use Rattle.text.specs.{holds, field_at}
use Rattle.text_value.specs.{malformed}
use Rattle.refusals.specs.{Verdict, ◌⇒◌, weighed, Refusal}
use Rattle.table_parts.specs.{kind_letters, type_letters, column_number}
use Rattle.line_cells.specs.{some_cell, bad_cell}
use Rattle.line_entry.specs.{Rule, Entry, letter_in, misnamed}
use Rattle.line_column.specs.declared.ReadColumn.{ReadColumn}

-- the place of the first cell among a line's fields
abbrev pub first_cell : ℕ
first_cell = 3

-- the cells of a line's fields
abbrev pub cells_of : List (List ℕ) → List (List ℕ)
cells_of fs = drop first_cell fs

-- the letters of the column's kind and type
abbrev pub kind_in : List (List ℕ) → ℕ
kind_in fs = letter_in (field_at fs 1)

abbrev pub type_in : List (List ℕ) → ℕ
type_in fs = letter_in (field_at fs 2)

-- the number of the column that they name
abbrev pub column_of : List (List ℕ) → ℕ
column_of fs = column_number (kind_in fs) (type_in fs)

unfoldable pub column_rule : List (List ℕ) → Rule
column_rule fs = record {
  cases =
      misnamed (code "T") fs ⇒ Refusal.Form
      ∷ leb (length fs) first_cell ⇒ Refusal.Form
      ∷ not (holds (kind_in fs) kind_letters) ⇒ Refusal.Form
      ∷ some_cell malformed (cells_of fs) ⇒ Refusal.Form
      ∷ not (holds (type_in fs) type_letters) ⇒ Refusal.ForestType
      ∷ ltb longest_column (length (cells_of fs)) ⇒ Refusal.TableColumn
      ∷ some_cell bad_cell (cells_of fs) ⇒ Refusal.TableColumn
      ∷ [];
  entry = Entry.Column (column_of fs);
}

-- "8 output shorter than needed", "8 only where no other applies": the line's own verdict, and then the room for its cells
unfoldable pub readable : Verdict → List (List ℕ) → ℕ → Verdict
readable verdict fs room = weighed verdict (ltb room (length (cells_of fs))) Refusal.OutputShort

-- what is read of a line's fields: the column's number and how many cells it has; where it is refused, neither
abbrev pub column_read : Verdict → List (List ℕ) → ReadColumn
column_read (Ok _) fs = record { verdict = (Ok tt); column = column_of fs; count = length (cells_of fs) }
column_read (Err refusal) fs = record { verdict = Err refusal; column = 0; count = 0 }
