-- A line of a book that is read as an S entry is read the same from its row. It has no byte 10, and it has the letter S and six fields: so "S,", the fields
-- behind the letter joined by commas, and byte 10 are the line and its end.
use Rattle.laws.proofs.{ℕ, ◌-◌, Bool, true, false, cond, ◌≡◌, refl, sym, ap, subst, ◌∙◌, List, [], ◌∷◌, ◌++◌, arith, length, get_or, eqb, eqb-false, ne_eqb, ltb}
use Rattle.refusals.specs.{smallest}
use Rattle.text.specs.{comma, line_end, extend, split, field_at, join, join_after}
use Rattle.text.proofs.Fields.{join-split}
use Rattle.line_entry.specs.{letter_in, parsed}
use Rattle.line.specs.{body_of, line_rule, conditions, entry_of}
use Rattle.book_listing.specs.{lines_of, longest_book, lines_run}
use Rattle.book_export.specs.{is_addition}
use Rattle.book_export.proofs.Additions.{SixFields, addition_fields}
use Rattle.sheet_write.specs.{row_of}
use Rattle.sheet_import.specs.{row_line}
use Rattle.line.proofs.Laws.{ended_body}
use Rattle.theorem_keeping.specs.{Each}
use Rattle.theorem_keeping.proofs.Lists.{each_at, each_so}

-- ---- a book's lines have no byte 10

abbrev Unended : List ℕ → Type 0
Unended line = Each (λ (b : ℕ). b ≡ line_end → ⊥) line

lines_unended : (book : List ℕ) → Each Unended (lines_of book)
unfolding lines_of extend Each
lines_unended [] = tt
lines_unended (b ∷ bs) = go (eqb b line_end) refl (lines_of bs) (lines_unended bs)
  where
    go : (t : Bool) → eqb b line_end ≡ t → (lines : List (List ℕ)) → Each Unended lines → Each Unended (cond t ([] ∷ lines) (extend b lines))
    go true q lines h = (tt, h)
    go false q [] h = ((eqb-false b line_end q, tt), tt)
    go false q (line ∷ lines) h = ((eqb-false b line_end q, h.0), h.1)

whole_body : (line : List ℕ) → Unended line → body_of line ≡ line
unfolding body_of
whole_body [] h = refl
whole_body (b ∷ bs) h =
    simp (ne_eqb (get_or (b ∷ bs) (length (b ∷ bs) - 1) 0) line_end (each_at (λ (c : ℕ). c ≡ line_end → ⊥) (b ∷ bs) (length (b ∷ bs) - 1) 0 (omega arith) h))

-- a line that is its own body
abbrev pub Whole : List ℕ → Type 0
Whole line = body_of line ≡ line

pub run-whole : (book : List ℕ) → Each Whole (lines_run book)
unfolding lines_run Each
run-whole book = go (ltb longest_book (length book))
  where
    go : (long : Bool) → Each Whole (cond long [] (lines_of book))
    go true = tt
    go false = each_so Unended Whole whole_body (lines_of book) (lines_unended book)

-- ---- a line that is read as an S entry

letter_alone : (field : List ℕ) → letter_in field ≡ 83 → field ≡ 83 ∷ []
unfolding letter_in
letter_alone [] e = absurd (let z : ◌≡◌ {A = ℕ} 0 83 = e in omega arith)
letter_alone (b ∷ []) e = ap (λ (c : ℕ). c ∷ []) e
letter_alone (b ∷ c ∷ bs) e = absurd (let z : ◌≡◌ {A = ℕ} 0 83 = e in omega arith)

-- the fields joined again
fields_again : (fs : List (List ℕ)) → SixFields fs → 83 ∷ comma ∷ join (field_at fs 1 ∷ field_at fs 2 ∷ field_at fs 3 ∷ field_at fs 4 ∷ field_at fs 5 ∷ []) ≡ join fs
unfolding join join_after
fields_again (f ∷ a ∷ b ∷ c ∷ d ∷ e ∷ []) six = ap (λ (g : List ℕ). g ++ (comma ∷ join_after a (b ∷ c ∷ d ∷ e ∷ []))) (sym (letter_alone f six.named))
fields_again [] six = absurd (omega (arith, six.many))
fields_again (f ∷ []) six = absurd (omega (arith, six.many))
fields_again (f ∷ a ∷ []) six = absurd (omega (arith, six.many))
fields_again (f ∷ a ∷ b ∷ []) six = absurd (omega (arith, six.many))
fields_again (f ∷ a ∷ b ∷ c ∷ []) six = absurd (omega (arith, six.many))
fields_again (f ∷ a ∷ b ∷ c ∷ d ∷ []) six = absurd (omega (arith, six.many))
fields_again (f ∷ a ∷ b ∷ c ∷ d ∷ e ∷ g ∷ fs) six = absurd (omega (arith, six.many))

module _ (line : List ℕ) (whole : Whole line) (a : is_addition (entry_of line) ≡ true) where
  row_line_lem : row_line (row_of line) ≡ line ++ (line_end ∷ [])
  unfolding row_of
  row_line_lem =
      let six : SixFields (split line) = subst (λ (l : List ℕ). SixFields (split l)) whole (addition_fields line a) in
      ap (λ (l : List ℕ). l ++ (line_end ∷ [])) (fields_again (split line) six ∙ join-split line)

  pub entry_again : entry_of (row_line (row_of line)) ≡ entry_of line
  unfolding entry_of
  entry_again =
      let body : body_of (row_line (row_of line)) ≡ body_of line = ap body_of row_line_lem ∙ ended_body line ∙ sym whole in
      ap (λ (l : List ℕ). parsed (smallest (conditions l)) (line_rule l).entry) body
