-- Rows of five fields, a row at a time.
use Rattle.laws.proofs.{ℕ, ◌+◌, ◌≤◌, ◌<◌, ◌≡◌, sym, ap, ◌∙◌, Bool, true, false, ◌&&◌, List, eq-eqb, ne_eqb, length, drop}
use Rattle.laws.specs.{every, eqb}
use Rattle.sheet_read.specs.{Reading, Row, rows_of, fields_from, width_from}
use Rattle.sheet_read.proofs.Joined.{first_row, rows_none}
use Rattle.sheet_judge.specs.{five_fields}

abbrev pub rows_at : List ℕ → ℕ → List Row
rows_at sheet i = rows_of (drop i sheet)

module _ (sheet : List ℕ) (i : ℕ) where
  -- the row at a place, and those behind it
  module _ (fields next : ℕ) (h : i < length sheet) (e : fields ≡ fields_from Reading.RowStart (drop i sheet)) (f : next ≡ i + width_from Reading.RowStart (drop i sheet)) where
    row_on : (eqb fields 5 && every five_fields (rows_at sheet next)) ≡ every five_fields (rows_at sheet i)
    unfolding every
    row_on = let k = first_row sheet i h in rw (k.first, e, f, ← k.count)

    pub five_on : fields ≡ 5 → every five_fields (rows_at sheet next) ≡ every five_fields (rows_at sheet i)
    five_on five = ap (λ (b : Bool). b && every five_fields (rows_at sheet next)) (sym (eq-eqb fields 5 five)) ∙ row_on

    pub five_off : (fields ≡ 5 → ⊥) → false ≡ every five_fields (rows_at sheet i)
    five_off other = ap (λ (b : Bool). b && every five_fields (rows_at sheet next)) (sym (ne_eqb fields 5 other)) ∙ row_on

  pub five_ends : length sheet ≤ i → true ≡ every five_fields (rows_at sheet i)
  unfolding every
  five_ends h = rw (rows_none sheet i h)
