-- Rows of any bytes are read again as they were written, by induction over their fields: behind its opening quote a field is read up to the quote that
-- shuts it, since every quote within it comes doubled, and a comma or CR LF follows.
use Rattle.laws.proofs.{ℕ, ◌≡◌, refl, ap, ◌∙◌, Bool, true, false, cond, List, [], ◌∷◌, ◌++◌, append_assoc, map, arith, eqb, eqb-true}
use Rattle.laws.specs.{every}
use Rattle.text.specs.{comma, extend, join_after, join}
use Rattle.statement_format.specs.{texts}
use Rattle.sheet_read.specs.{Reading, Row, quote, carriage_return, line_feed, after_field, begins_at, turned, reading_after, in_front, field_in_front, marked, rows_from}
use Rattle.sheet_write.specs.{doubled, quoted, row_text, sheet_text}
use Rattle.theorem_rows.specs.{has_field}

-- the rows that bytes are read as, and where they lead
abbrev Reads : Reading → List ℕ → List Row → Reading → Type 0
Reads reading bytes rows last = (rows_from reading bytes ≡ rows) × (reading_after reading bytes ≡ last)

-- a field within its quotes
inside : (f rest : List ℕ) (row : Row) (rows : List Row) (last : Reading) → Reads Reading.Shut rest (([] ∷ row) ∷ rows) last
    → Reads Reading.Quoted (doubled f ++ (quote ∷ rest)) ((f ∷ row) ∷ rows) last
unfolding doubled rows_from reading_after turned marked in_front extend
inside [] rest row rows last h = h
inside (b ∷ f) rest row rows last h = go (eqb b quote) refl (inside f rest row rows last h)
  where
    go : (x : Bool) → eqb b quote ≡ x → Reads Reading.Quoted (doubled f ++ (quote ∷ rest)) ((f ∷ row) ∷ rows) last
        → Reads Reading.Quoted (cond x (quote ∷ quote ∷ doubled f) (b ∷ doubled f) ++ (quote ∷ rest)) (((b ∷ f) ∷ row) ∷ rows) last
    go true e ih = rw (eqb-true b quote e) (ap (in_front quote) ih.0, ih.1)
    go false e ih =
        (rw e (ap (in_front b) ih.0), ap (λ (x : Bool). reading_after (cond x Reading.Shut Reading.Quoted) (doubled f ++ (quote ∷ rest))) e ∙ ih.1)

-- what stands behind a row's field that was shut
abbrev behind : Row → List ℕ → List ℕ
behind [] rest = carriage_return ∷ line_feed ∷ rest
behind (g ∷ gs) rest = comma ∷ quote ∷ (doubled g ++ (quote ∷ behind gs rest))

row_read : (f : List ℕ) (fs : Row) (rest : List ℕ) (rows : List Row) (last : Reading) → Reads Reading.RowStart rest rows last
    → Reads Reading.Quoted (doubled f ++ (quote ∷ behind fs rest)) ((f ∷ fs) ∷ rows) last
unfolding rows_from reading_after turned after_field begins_at marked field_in_front
row_read f [] rest rows last h = inside f (carriage_return ∷ line_feed ∷ rest) [] rows last (ap (λ (rs : List Row). ([] ∷ []) ∷ rs) h.0, h.1)
row_read f (g ∷ gs) rest rows last h =
    let ih = row_read g gs rest rows last h in
    inside f (behind (g ∷ gs) rest) (g ∷ gs) rows last (ap field_in_front ih.0, ih.1)

field-first : (f more ends rest : List ℕ) → ((quoted f ++ (comma ∷ more)) ++ ends) ++ rest ≡ quote ∷ (doubled f ++ (quote ∷ comma ∷ ((more ++ ends) ++ rest)))
unfolding quoted
field-first f more ends rest = simp append_assoc

row_written : (f : List ℕ) (fs : Row) (rest : List ℕ) → row_text (f ∷ fs) ++ rest ≡ quote ∷ (doubled f ++ (quote ∷ behind fs rest))
unfolding row_text join join_after quoted
row_written f [] rest = simp append_assoc
row_written f (g ∷ gs) rest =
    field-first f (join_after (quoted g) (map quoted gs)) (carriage_return ∷ line_feed ∷ []) rest
    ∙ ap (λ (l : List ℕ). quote ∷ (doubled f ++ (quote ∷ comma ∷ l))) (row_written g gs rest)

pub sheet_read : (rows : List Row) → every has_field rows ≡ true → Reads Reading.RowStart (sheet_text rows) rows Reading.RowStart
unfolding every sheet_text texts rows_from reading_after turned begins_at marked
sheet_read [] h = (refl, refl)
sheet_read ([] ∷ rows) h = absurd (let z : ◌≡◌ {A = ℕ} 0 1 = cc in omega arith)
sheet_read ((f ∷ fs) ∷ rows) h = rw (row_written f fs (texts row_text rows)) (row_read f fs (sheet_text rows) rows Reading.RowStart (sheet_read rows h))
