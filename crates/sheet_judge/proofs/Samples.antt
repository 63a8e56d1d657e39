-- The verdict tried on sheets: antt computes each.
use Rattle.std.specs.Prelude.{Ok, Err}
use Rattle.laws.proofs.{ℕ, ◌≡◌, refl, List, [], ◌∷◌, ◌++◌, drop}
use Rattle.laws.specs.{code, every, map}
use Rattle.text.specs.{comma, extend, join, join_after}
use Rattle.refusals.specs.{Refusal, weighed, weigh_all, smallest}
use Rattle.sheet_read.specs.{quote, carriage_return as cr, line_feed as lf, after_field, plain_at, begins_at, turned, reading_after, sound, in_front, field_in_front, marked, rows_from, rows_of}
use Rattle.sheet_judge.specs.{heading_row, regular, sheet_verdict, same_by}

abbrev heading : List ℕ
heading = join heading_row ++ cr ∷ lf ∷ []

-- the heading alone, with and without its end; its first name within quotes; a row of five fields behind it
accepted : map sheet_verdict
    (heading
    ∷ join heading_row
    ∷ (quote ∷ code "a" ∷ code "r" ∷ code "e" ∷ code "a" ∷ quote ∷ drop 4 heading)
    ∷ (heading ++ comma ∷ comma ∷ comma ∷ comma ∷ [])
    ∷ [])
    ≡ Ok tt ∷ (Ok tt) ∷ (Ok tt) ∷ (Ok tt) ∷ []
unfolding sheet_verdict smallest weigh_all weighed regular same_by every sound reading_after rows_of rows_from turned begins_at plain_at after_field marked in_front field_in_front extend join join_after
accepted = refl

-- the empty sheet; a byte order mark in front of the heading; four fields, six, and a blank row behind it
not_regular : map sheet_verdict
    ([]
    ∷ (239 ∷ 187 ∷ 191 ∷ heading)
    ∷ (heading ++ comma ∷ comma ∷ comma ∷ [])
    ∷ (heading ++ comma ∷ comma ∷ comma ∷ comma ∷ comma ∷ [])
    ∷ (heading ++ cr ∷ lf ∷ [])
    ∷ [])
    ≡ Err Refusal.SheetRow
    ∷ Err Refusal.SheetRow
    ∷ Err Refusal.SheetRow
    ∷ Err Refusal.SheetRow
    ∷ Err Refusal.SheetRow
    ∷ []
unfolding sheet_verdict smallest weigh_all weighed regular same_by every sound reading_after rows_of rows_from turned begins_at plain_at after_field marked in_front field_in_front extend join join_after
not_regular = refl

-- a row end that is broken comes before a row without five fields
form_first : sheet_verdict (heading ++ comma ∷ lf ∷ []) ≡ Err Refusal.SheetForm
unfolding sheet_verdict smallest weigh_all weighed regular same_by every sound reading_after rows_of rows_from turned begins_at plain_at after_field marked in_front field_in_front extend join join_after
form_first = refl
