-- "rows as comma-separated values under RFC 4180": the rows of a sheet, each of its fields, unquoted.
use Rattle.std.specs.Prelude.{◌∷◌}
use Rattle.laws.specs.{ℕ, List, []}
use Rattle.text.specs.{extend}
use Rattle.sheet_read.specs.declared.Reading.{Reading}
use Rattle.sheet_read.specs.declared.Mark.{Mark}
use Rattle.sheet_read.specs.Turns.{turned, mark_of}

abbrev pub Row : Type 0
Row = List (List ℕ)

-- a byte in front of the first field of the first row
unfoldable pub in_front : ℕ → List Row → List Row
in_front b [] = ((b ∷ []) ∷ []) ∷ []
in_front b (row ∷ rows) = extend b row ∷ rows

-- a field that has ended, in front of the first row
unfoldable pub field_in_front : List Row → List Row
field_in_front [] = ([] ∷ [] ∷ []) ∷ []
field_in_front (row ∷ rows) = ([] ∷ row) ∷ rows

-- a byte in front of the rows behind it, by its mark
unfoldable pub marked : Mark → ℕ → List Row → List Row
marked Mark.Pass b rows = rows
marked Mark.Keep b rows = in_front b rows
marked Mark.Field b rows = field_in_front rows
marked Mark.Row b rows = ([] ∷ []) ∷ rows

-- where the bytes end: a row that was begun has its last field, and behind a row's end there is none
abbrev pub at_end : Reading → List Row
at_end Reading.RowStart = []
at_end Reading.FieldStart = ([] ∷ []) ∷ []
at_end Reading.Plain = ([] ∷ []) ∷ []
at_end Reading.Quoted = ([] ∷ []) ∷ []
at_end Reading.Shut = ([] ∷ []) ∷ []
at_end Reading.RowEnd = ([] ∷ []) ∷ []
at_end Reading.Broken = ([] ∷ []) ∷ []

unfoldable pub rows_from : Reading → List ℕ → List Row
rows_from reading [] = at_end reading
rows_from reading (b ∷ bs) = let next = turned reading b in marked (mark_of reading next) b (rows_from next bs)

-- "bytes to rows of fields under RFC 4180"
unfoldable pub rows_of : List ℕ → List Row
rows_of sheet = rows_from Reading.RowStart sheet
