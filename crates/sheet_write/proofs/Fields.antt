-- A row's text is its fields, each in its quotes and with a comma behind it or, behind the last, CR LF; the fields are those that a scan of the line found.
use Rattle.laws.proofs.{ℕ, ◌≡◌, ap, ◌∙◌, List, [], ◌∷◌, ◌++◌, append_assoc, arith}
use Rattle.text.specs.{comma, split, join, join_after}
use Rattle.text_field.specs.{Places, places_of, part}
use Rattle.text_field.proofs.Laws.{field_found}
use Rattle.sheet_read.specs.{carriage_return, line_feed}
use Rattle.sheet_write.specs.{quoted, row_text, row_of}

-- a field that another follows
abbrev followed : List ℕ → List ℕ
followed field = quoted field ++ (comma ∷ [])

-- the row of five fields
abbrev five_text : List ℕ → List ℕ → List ℕ → List ℕ → List ℕ → List ℕ
five_text a b c d e = ((((followed a ++ followed b) ++ followed c) ++ followed d) ++ quoted e) ++ (carriage_return ∷ line_feed ∷ [])

row_of_five : (a b c d e : List ℕ) → five_text a b c d e ≡ row_text (a ∷ b ∷ c ∷ d ∷ e ∷ [])
unfolding row_text join join_after
row_of_five a b c d e = simp append_assoc

module _ (line : List ℕ) (places : Places) (scanned : places ≡ places_of (split line)) where
  fields-found : part line places 1 ∷ part line places 2 ∷ part line places 3 ∷ part line places 4 ∷ part line places 5 ∷ [] ≡ row_of line
  unfolding row_of
  fields-found =
      let found = field_found line places scanned in
      rw (found 1 (omega arith), found 2 (omega arith), found 3 (omega arith), found 4 (omega arith), found 5 (omega arith))

  pub row_found : five_text (part line places 1) (part line places 2) (part line places 3) (part line places 4) (part line places 5) ≡ row_text (row_of line)
  row_found = row_of_five _ _ _ _ _ ∙ ap row_text fields-found
