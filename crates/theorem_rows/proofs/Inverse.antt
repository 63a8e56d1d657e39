-- Rows that were written are the rows that are read again, and the bytes are sound: both follow from where the reading of a whole sheet leads.
use Rattle.laws.proofs.{◌≡◌, ap, List, true}
use Rattle.laws.specs.{every}
use Rattle.sheet_read.specs.{Row, may_end, sound, rows_of}
use Rattle.sheet_write.specs.{sheet_text}
use Rattle.theorem_rows.specs.{has_field}
use Rattle.theorem_rows.proofs.Sheets.{sheet_read}

pub rows_read : (rows : List Row) → every has_field rows ≡ true → rows_of (sheet_text rows) ≡ rows
unfolding rows_of
rows_read rows h = (sheet_read rows h).0

pub sheet_sound : (rows : List Row) → every has_field rows ≡ true → sound (sheet_text rows) ≡ true
unfolding sound
sheet_sound rows h = ap may_end (sheet_read rows h).1
