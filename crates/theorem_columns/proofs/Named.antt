-- Every T line that is accepted names a kind and a type: its letters are among theirs, or it would be refused under 1 or 3.
use Rattle.std.specs.Prelude.{Ok}
use Rattle.laws.proofs.{ℕ, suc, ◌≡◌, refl, sym, Bool, true, false, cond, List, [], ◌∷◌, ◌⊎◌, inl, inr, ⊎_elim, arith, eqb, eqb-true, ltb, ltb-true, lt-ltb, not-false, length, get_or}
use Rattle.refusals.specs.{Verdict}
use Rattle.forest.specs.{Forest, Region, letters_of}
use Rattle.schedules.specs.{Kind}
use Rattle.text.specs.{width_to, holds}
use Rattle.table_parts.specs.{kind_letters, type_letters}
use Rattle.line_column.specs.{kind_in, type_in, column_rule}
use Rattle.line.specs.{fields_of, as_column}
use Rattle.line.proofs.Columns.{column_cases}
use Rattle.rates.specs.{kind_letter}
use Rattle.theorem_columns.specs.{NamesSome}

-- a byte among bytes is the first of them, or among the others
first_or_later : (b x : ℕ) (xs : List ℕ) → holds b (x ∷ xs) ≡ true → (b ≡ x) ⊎ (holds b xs ≡ true)
unfolding holds width_to
first_or_later b x xs h = go (eqb x b) refl h
  where
    go : (t : Bool) → eqb x b ≡ t → ltb (cond t 0 (suc (width_to b xs))) (length (x ∷ xs)) ≡ true → (b ≡ x) ⊎ (ltb (width_to b xs) (length xs) ≡ true)
    go true e h = inl (sym (eqb-true x b e))
    go false e h = let l = ltb-true (suc (width_to b xs)) (length (x ∷ xs)) h in inr (lt-ltb (width_to b xs) (length xs) (omega arith))

none_held : (b : ℕ) → holds b [] ≡ true → ⊥
unfolding holds width_to
none_held b h = let l = ltb-true 0 0 h in omega arith

module _ (line : List ℕ) (clear : as_column line ≡ Ok tt) where
  kind_held : holds (kind_in (fields_of line)) kind_letters ≡ true
  unfolding column_rule
  kind_held = not-false _ (column_cases line clear 2)

  type_held : holds (type_in (fields_of line)) type_letters ≡ true
  unfolding column_rule
  type_held = not-false _ (column_cases line clear 4)

  with_type : (kind : Kind) → kind_in (fields_of line) ≡ kind_letter kind → NamesSome line
  unfolding letters_of
  with_type kind k =
      ⊎_elim (λ t. named (Forest.Radiata Region.Auckland) t)
      (λ h. ⊎_elim (λ t. named Forest.DouglasFir t)
      (λ h. ⊎_elim (λ t. named Forest.ExoticSoftwoods t)
      (λ h. ⊎_elim (λ t. named Forest.ExoticHardwoods t)
      (λ h. ⊎_elim (λ t. named Forest.Indigenous t) (λ h. absurd (none_held _ h))
      (first_or_later _ _ _ h)) (first_or_later _ _ _ h)) (first_or_later _ _ _ h)) (first_or_later _ _ _ h)) (first_or_later _ _ _ type_held)
    where
      named : (forest : Forest) → type_in (fields_of line) ≡ get_or (letters_of forest) 0 0 → NamesSome line
      named forest t = record { kind = kind; forest = forest; names = record { of_kind = k; of_type = t } }

  pub accepted-names : NamesSome line
  accepted-names =
      ⊎_elim (with_type Kind.Stock)
      (λ h. ⊎_elim (with_type Kind.Residue) (λ h. absurd (none_held _ h)) (first_or_later _ _ _ h))
      (first_or_later _ _ _ kind_held)
