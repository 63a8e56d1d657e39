-- The first row of bytes, its fields joined by commas: what it puts, how many fields it has, and how far it goes.
use Rattle.std.specs.Prelude.{◌+◌, ◌≡◌, ◌∷◌, ◌++◌}
use Rattle.laws.specs.{ℕ, suc, Bool, true, false, cond, List, [], drop}
use Rattle.text.specs.{comma, Wrote}
use Rattle.sheet_read.specs.declared.Reading.{Reading}
use Rattle.sheet_read.specs.declared.Mark.{Mark}
use Rattle.sheet_read.specs.declared.JoinedRow.{JoinedRow}
use Rattle.sheet_read.specs.Turns.{turned, mark_of}

-- what a byte puts: a field's own byte itself, and the end of a field a comma
abbrev pub mark_text : Mark → ℕ → List ℕ
mark_text Mark.Pass b = []
mark_text Mark.Keep b = b ∷ []
mark_text Mark.Field b = comma ∷ []
mark_text Mark.Row b = []

-- how many fields more a row has for a byte
abbrev pub mark_fields : Mark → ℕ
mark_fields Mark.Pass = 0
mark_fields Mark.Keep = 0
mark_fields Mark.Field = 1
mark_fields Mark.Row = 0

abbrev pub ends_row : Mark → Bool
ends_row Mark.Pass = false
ends_row Mark.Keep = false
ends_row Mark.Field = false
ends_row Mark.Row = true

-- the fields, unquoted, of what is left of a row, with a comma between each two
unfoldable pub joined_from : Reading → List ℕ → List ℕ
joined_from reading [] = []
joined_from reading (b ∷ bs) =
    let next = turned reading b in
    let mark = mark_of reading next in
    mark_text mark b ++ cond (ends_row mark) [] (joined_from next bs)

-- how many they are
unfoldable pub fields_from : Reading → List ℕ → ℕ
fields_from reading [] = 1
fields_from reading (b ∷ bs) =
    let next = turned reading b in
    let mark = mark_of reading next in
    mark_fields mark + cond (ends_row mark) 1 (fields_from next bs)

-- how many bytes it takes, with those that end it
unfoldable pub width_from : Reading → List ℕ → ℕ
width_from reading [] = 0
width_from reading (b ∷ bs) = let next = turned reading b in suc (cond (ends_row (mark_of reading next)) 0 (width_from next bs))

-- the row that starts at a place, put into a buffer from `at` on: past the sheet's end nothing is put, and it has one field
pub record Joined (sheet : List ℕ) (start : ℕ) (buffer : List ℕ) (at : ℕ) (after : List ℕ) (row : JoinedRow) : Type 0 where
  pub wrote : Wrote buffer at (joined_from Reading.RowStart (drop start sheet)) after row.end
  pub fields : row.fields ≡ fields_from Reading.RowStart (drop start sheet)
  pub next : row.next ≡ start + width_from Reading.RowStart (drop start sheet)
