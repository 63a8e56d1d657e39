-- The definitions tried on what a sheet may hold, and on what breaks it: antt computes each.
use Rattle.laws.proofs.{ℕ, ◌≡◌, refl, true, false, [], ◌∷◌}
use Rattle.laws.specs.{code, map}
use Rattle.text.specs.{comma, extend}
use Rattle.sheet_read.specs.{Row, quote, carriage_return as cr, line_feed as lf, after_field, plain_at, begins_at, turned, reading_after, sound, in_front, field_in_front, marked, rows_from, rows_of}

abbrev a : ℕ
a = code "a"

abbrev b : ℕ
b = code "b"

abbrev letter : ℕ → Row
letter x = (x ∷ []) ∷ []

-- CR LF ends a row, and the last row may lack its end
two_rows : rows_of (a ∷ cr ∷ lf ∷ b ∷ cr ∷ lf ∷ []) ≡ letter a ∷ letter b ∷ []
unfolding rows_of rows_from turned begins_at plain_at after_field marked in_front field_in_front extend
two_rows = refl

without_last_end : rows_of (a ∷ cr ∷ lf ∷ b ∷ []) ≡ letter a ∷ letter b ∷ []
unfolding rows_of rows_from turned begins_at plain_at after_field marked in_front field_in_front extend
without_last_end = refl

-- a comma parts two fields, and one behind the last byte leaves an empty one; a comma and CR LF within quotes are the field's, and a doubled quote is one
fields : rows_of (a ∷ comma ∷ quote ∷ comma ∷ cr ∷ lf ∷ quote ∷ quote ∷ b ∷ quote ∷ comma ∷ [])
    ≡ ((a ∷ []) ∷ (comma ∷ cr ∷ lf ∷ quote ∷ b ∷ []) ∷ [] ∷ []) ∷ []
unfolding rows_of rows_from turned begins_at plain_at after_field marked in_front field_in_front extend
fields = refl

-- a NUL and blanks are the field's
any_byte : rows_of (32 ∷ 0 ∷ 32 ∷ []) ≡ ((32 ∷ 0 ∷ 32 ∷ []) ∷ []) ∷ []
unfolding rows_of rows_from turned begins_at plain_at after_field marked in_front field_in_front extend
any_byte = refl

-- the empty sheet has no row, and a blank row is one empty field
no_row : rows_of [] ≡ []
unfolding rows_of rows_from
no_row = refl

blank_row : rows_of (a ∷ cr ∷ lf ∷ cr ∷ lf ∷ []) ≡ letter a ∷ ([] ∷ []) ∷ []
unfolding rows_of rows_from turned begins_at plain_at after_field marked in_front field_in_front extend
blank_row = refl

-- each of these sheets is sound
all_sound : map sound
    ([]
    ∷ (a ∷ cr ∷ lf ∷ b ∷ cr ∷ lf ∷ [])
    ∷ (a ∷ cr ∷ lf ∷ b ∷ [])
    ∷ (a ∷ comma ∷ quote ∷ comma ∷ cr ∷ lf ∷ quote ∷ quote ∷ b ∷ quote ∷ comma ∷ [])
    ∷ (quote ∷ a ∷ quote ∷ [])
    ∷ (32 ∷ 0 ∷ 32 ∷ [])
    ∷ (cr ∷ lf ∷ cr ∷ lf ∷ [])
    ∷ [])
    ≡ true ∷ true ∷ true ∷ true ∷ true ∷ true ∷ true ∷ []
unfolding sound reading_after turned begins_at plain_at after_field
all_sound = refl

-- a bare CR, a bare LF, a CR at the end, a quote in a field without quotes, a byte behind a closing quote, a blank there, a quote not closed: none is sound
none_sound : map sound
    ((a ∷ cr ∷ b ∷ [])
    ∷ (a ∷ lf ∷ b ∷ [])
    ∷ (lf ∷ [])
    ∷ (a ∷ cr ∷ [])
    ∷ (a ∷ quote ∷ b ∷ [])
    ∷ (quote ∷ a ∷ quote ∷ b ∷ [])
    ∷ (quote ∷ a ∷ quote ∷ 32 ∷ comma ∷ [])
    ∷ (quote ∷ a ∷ quote ∷ lf ∷ [])
    ∷ (quote ∷ a ∷ [])
    ∷ (quote ∷ a ∷ quote ∷ quote ∷ [])
    ∷ [])
    ≡ false ∷ false ∷ false ∷ false ∷ false ∷ false ∷ false ∷ false ∷ false ∷ false ∷ []
unfolding sound reading_after turned begins_at plain_at after_field
none_sound = refl
