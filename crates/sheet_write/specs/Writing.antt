-- Rows as bytes under RFC 4180: "each field quoted, rows ended by CR LF".
use Rattle.std.specs.Prelude.{◌∷◌, ◌++◌}
use Rattle.laws.specs.{ℕ, cond, List, [], map, eqb}
use Rattle.text.specs.{split, field_at, join}
use Rattle.statement_format.specs.{texts}
use Rattle.sheet_read.specs.{Row, quote, carriage_return, line_feed}

-- "a double-quote appearing inside a field must be escaped by preceding it with another double quote"
unfoldable pub doubled : List ℕ → List ℕ
doubled [] = []
doubled (b ∷ bs) = cond (eqb b quote) (quote ∷ quote ∷ doubled bs) (b ∷ doubled bs)

unfoldable pub quoted : List ℕ → List ℕ
quoted field = (quote ∷ []) ++ doubled field ++ (quote ∷ [])

-- a row's fields with a comma between each two, and its end
unfoldable pub row_text : Row → List ℕ
row_text row = join (map quoted row) ++ (carriage_return ∷ line_feed ∷ [])

unfoldable pub sheet_text : List Row → List ℕ
sheet_text rows = texts row_text rows

-- the row of a book's line, which comes without its end: the five fields behind the letter, byte for byte
unfoldable pub row_of : List ℕ → Row
row_of line = let fs = split line in field_at fs 1 ∷ field_at fs 2 ∷ field_at fs 3 ∷ field_at fs 4 ∷ field_at fs 5 ∷ []
