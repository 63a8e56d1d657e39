-- RFC 4180, section 2, byte by byte: where a reader of a sheet stands between two bytes, and what a byte is to its field and its row.
use Rattle.std.specs.Prelude.{◌||◌, ◌∷◌}
use Rattle.laws.specs.{ℕ, Bool, true, false, cond, List, [], eqb}
use Rattle.text.specs.{comma}
use Rattle.sheet_read.specs.declared.Reading.{Reading}
use Rattle.sheet_read.specs.declared.Mark.{Mark}

abbrev pub quote : ℕ
quote = 34

abbrev pub carriage_return : ℕ
carriage_return = 13

abbrev pub line_feed : ℕ
line_feed = 10

-- behind a field: "one or more fields, separated by commas"; "delimited by a line break (CRLF)", which CR begins; any other byte leads elsewhere
unfoldable pub after_field : Reading → ℕ → Reading
after_field other b = cond (eqb b comma) Reading.FieldStart (cond (eqb b carriage_return) Reading.RowEnd other)

-- a byte of a field without quotes: "If fields are not enclosed with double quotes, then double quotes may not appear inside the fields"; nor does LF
unfoldable pub plain_at : ℕ → Reading
plain_at b = after_field (cond (eqb b quote || eqb b line_feed) Reading.Broken Reading.Plain) b

-- where a field begins: "Each field may or may not be enclosed in double quotes"
unfoldable pub begins_at : ℕ → Reading
begins_at b = cond (eqb b quote) Reading.Quoted (plain_at b)

-- where a byte leads: within quotes every byte is the field's but a quote, which is either "escaped by preceding it with another double quote" or shuts the field
unfoldable pub turned : Reading → ℕ → Reading
turned Reading.RowStart b = begins_at b
turned Reading.FieldStart b = begins_at b
turned Reading.Plain b = plain_at b
turned Reading.Quoted b = cond (eqb b quote) Reading.Shut Reading.Quoted
turned Reading.Shut b = cond (eqb b quote) Reading.Quoted (after_field Reading.Broken b)
turned Reading.RowEnd b = cond (eqb b line_feed) Reading.RowStart Reading.Broken
turned Reading.Broken b = Reading.Broken

-- where all bytes lead
unfoldable pub reading_after : Reading → List ℕ → Reading
reading_after reading [] = reading
reading_after reading (b ∷ bs) = reading_after (turned reading b) bs

-- "The last record in the file may or may not have an ending line break"
abbrev pub may_end : Reading → Bool
may_end Reading.RowStart = true
may_end Reading.FieldStart = true
may_end Reading.Plain = true
may_end Reading.Quoted = false
may_end Reading.Shut = true
may_end Reading.RowEnd = false
may_end Reading.Broken = false

-- whether neither quoting nor a row end is broken
unfoldable pub sound : List ℕ → Bool
sound sheet = may_end (reading_after Reading.RowStart sheet)

-- a byte that leads into quotes opens the field, or is the field's
abbrev pub quoted_mark : Reading → Mark
quoted_mark Reading.RowStart = Mark.Pass
quoted_mark Reading.FieldStart = Mark.Pass
quoted_mark Reading.Plain = Mark.Keep
quoted_mark Reading.Quoted = Mark.Keep
quoted_mark Reading.Shut = Mark.Keep
quoted_mark Reading.RowEnd = Mark.Keep
quoted_mark Reading.Broken = Mark.Keep

-- what a byte is, by where it stands and where it leads: the field's own, the end of a field or of a row, or none of these
abbrev pub mark_of : Reading → Reading → Mark
mark_of before Reading.RowStart = Mark.Row
mark_of before Reading.FieldStart = Mark.Field
mark_of before Reading.Plain = Mark.Keep
mark_of before Reading.Quoted = quoted_mark before
mark_of before Reading.Shut = Mark.Pass
mark_of before Reading.RowEnd = Mark.Pass
mark_of before Reading.Broken = Mark.Pass
