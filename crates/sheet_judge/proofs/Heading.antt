-- Five fields whose joined bytes are the heading's are the heading: its bytes split into five fields and no more, and they are its own.
use Rattle.laws.proofs.{ℕ, ◌+◌, ◌<◌, min, ◌≡◌, refl, sym, ap, ◌∙◌, Bool, true, ◌&&◌, List, [], ◌∷◌, ◌++◌, append-nil, arith, eqb, length, drop, sets, replicate, eqb-true, eq-eqb}
use Rattle.laws.specs.{every}
use Rattle.laws.proofs.Elements.{same_test}
use Rattle.laws.proofs.Lists.{and_left, and_right, both}
use Rattle.laws.proofs.Stores.{stored-in_front}
use Rattle.text.specs.{greatest, Wrote, extend, split, join, join_after}
use Rattle.text.proofs.Joins.{split-joined}
use Rattle.text.proofs.Writes.{wrote_as}
use Rattle.sheet_read.specs.{Row, JoinedRow, Joined, rows_of, rows_from, fields_from}
use Rattle.sheet_read.proofs.Joined.{first_of, first_row}
use Rattle.sheet_judge.specs.{heading_row, five_fields, same_bytes, same_row, regular, same_by}
use Rattle.sheet_judge.proofs.Rows.{rows_at}
use Rattle.sheet_judge.proofs.Same.{same_bytes_lem, same_row_lem}

-- the heading, split
heading_split : split (join heading_row) ≡ heading_row
unfolding split extend join join_after
heading_split = refl

heading_only : (row : Row) → 0 < length row → length row ≡ 5 → join row ≡ join heading_row → row ≡ heading_row
heading_only row some five e =
    let apart : split (join row) ≡ heading_row = ap split e ∙ heading_split in
    sym (split-joined row some (ap length apart ∙ sym five)) ∙ apart

heading_self : same_row heading_row heading_row ≡ true
unfolding same_by
heading_self = refl

-- a row, put into a buffer as long as the heading
module _ (row : Row) (some : 0 < length row) (fields end : ℕ) (buffer : List ℕ) (n : fields ≡ length row) (w : Wrote (replicate 30 0) 0 (join row) buffer end) where
  abbrev tests : Bool
  tests = (eqb fields 5 && eqb end 30) && same_bytes buffer (join heading_row)

  found : tests ≡ true → row ≡ heading_row
  found e =
      let counts = and_left (eqb fields 5 && eqb end 30) (same_bytes buffer (join heading_row)) e in
      let five : fields ≡ 5 = eqb-true fields 5 (and_left (eqb fields 5) (eqb end 30) counts) in
      let wide : end ≡ 30 = eqb-true end 30 (and_right (eqb fields 5) (eqb end 30) counts) in
      let same : buffer ≡ join heading_row = same_bytes_lem buffer (join heading_row) (and_right (eqb fields 5 && eqb end 30) (same_bytes buffer (join heading_row)) e) in
      let whole : length (join row) ≡ 30 = omega (arith, w.place) in
      let kept : buffer ≡ join row =
      w.stored ∙ stored-in_front (join row) (replicate 30 0) (omega arith)
      ∙ ap (λ (k : ℕ). join row ++ drop k (replicate 30 0)) whole ∙ append-nil (join row) in
      heading_only row some (sym n ∙ five) (sym kept ∙ same)

  named : row ≡ heading_row → tests ≡ true
  unfolding join join_after same_by
  named e =
      let five = eq-eqb fields 5 (n ∙ ap length e) in
      let wide = eq-eqb end 30 (w.place ∙ ap (λ (r : Row). min (0 + length (join r)) greatest) e) in
      let same : same_bytes buffer (join heading_row) ≡ true =
      ap (λ (l : List ℕ). same_bytes l (join heading_row)) (w.stored ∙ ap (λ (r : Row). sets (replicate 30 0) 0 (join r)) e) in
      both (eqb fields 5 && eqb end 30) (same_bytes buffer (join heading_row)) (both (eqb fields 5) (eqb end 30) five wide) same

  heading_tested : tests ≡ same_row row heading_row
  heading_tested =
      same_test tests (same_row row heading_row) (λ e. ap (λ (r : Row). same_row r heading_row) (found e) ∙ heading_self) (λ e. named (same_row_lem row heading_row e))

-- the first row, tested, and those behind it
pub regular_tested : (sheet : List ℕ) (row : JoinedRow) (buffer : List ℕ) → Joined sheet 0 (replicate 30 0) 0 buffer row
    → (((eqb row.fields 5 && eqb row.end 30) && same_bytes buffer (join heading_row)) && every five_fields (rows_at sheet row.next)) ≡ regular (rows_of sheet)
unfolding regular rows_of rows_from fields_from
regular_tested [] row buffer j =
    ap (λ (n : ℕ). ((eqb n 5 && eqb row.end 30) && same_bytes buffer (join heading_row)) && every five_fields (rows_at [] row.next)) j.fields
regular_tested (b ∷ bs) row buffer j =
    let sheet = b ∷ bs in
    let k = first_row sheet 0 (omega arith) in
    let first = first_of (rows_of sheet) in
    ap (λ (named : Bool). named && every five_fields (rows_at sheet row.next))
    (heading_tested first k.some row.fields row.end buffer (j.fields ∙ sym k.count) (wrote_as (sym k.text) j.wrote))
    ∙ ap (λ (n : ℕ). same_row first heading_row && every five_fields (rows_at sheet n)) j.next
    ∙ sym (ap regular k.first)
