-- How a row is read: as the line made of the bytes at its place.
use Rattle.std.specs.Prelude.{◌+◌, ◌≡◌, ◌∷◌, ◌++◌}
use Rattle.laws.specs.{code, ℕ, List, [], drop}
use Rattle.text.specs.{comma, line_end}
use Rattle.line.specs.{entry_of}
use Rattle.sheet_read.specs.{Reading, joined_from, width_from}
use Rattle.sheet_import.specs.declared.RowRead.{RowRead}

-- "S,", the fields of the row at a place joined by commas, and byte 10
abbrev pub line_at : List ℕ → ℕ → List ℕ
line_at sheet at = code "S" ∷ comma ∷ (joined_from Reading.RowStart (drop at sheet) ++ (line_end ∷ []))

pub record ReadsRow (sheet : List ℕ) (at : ℕ) (read : RowRead) : Type 0 where
  pub parsed : read.parsed ≡ entry_of (line_at sheet at)
  pub next : read.next ≡ at + width_from Reading.RowStart (drop at sheet)
