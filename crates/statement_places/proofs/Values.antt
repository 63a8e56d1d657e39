-- Numbers and types as fields: the digits of a number and the letters of a type are read as it, and nothing else is.
use Rattle.std.specs.Prelude.{Some, None, Option, Ok, Err}
use Rattle.laws.proofs.{ℕ, ◌≤◌, ◌<◌, ◌≡◌, refl, ap, subst, ◌∙◌, Bool, true, false, cond, List, [], ◌∷◌, ◌++◌, arith, le-leb, leb-true, leb}
use Rattle.text.specs.{digits}
use Rattle.text_number.specs.{Number, Unread, number_in}
use Rattle.text_number.proofs.RoundTrip.{there_and_back, canonical}
use Rattle.forest.specs.{Forest, letters_of, named}
use Rattle.forest.proofs.Laws.{letters_name, only_letters_name}
use Rattle.statement_format.specs.{number_text, type_text}
use Rattle.statement_cursor.specs.{NumberField, no_number, no_type, number_before, number_at, type_before, type_at}
use Rattle.statement_parse.specs.{most_read}
use Rattle.statement_places.proofs.Places.{Stands, There}
use Rattle.statement_places.proofs.Widths.{high_digits, high_letters}
use Rattle.statement_places.proofs.Fields.{field_here, field_there}

pub number_here : {s : List ℕ} {at end n next : ℕ} (most : ℕ) → 0 < at → end < 48 → n ≤ most → most ≤ most_read → Stands s at (number_text n end) next
    → number_at s at end most ≡ record { value = n; next = next }
unfolding number_at number_text number_before
number_here {s} {at} {end} {n} {next} most started low small room stands =
    field_here no_number (λ p bytes. number_before most p (number_in bytes)) s at end (digits n) next started low (high_digits n) stands
    ∙ ap (number_before most next) (there_and_back n (omega arith))
    ∙ simp (le-leb n most small)

-- a number by the test of its limit
abbrev valued : ℕ → ℕ → Bool → NumberField
valued v next t = cond t (record { value = v; next = next }) no_number

module _ (s : List ℕ) (at end most : ℕ) where
  number_of : (next : ℕ) (bytes : List ℕ) → 0 < at → Stands s at (bytes ++ (end ∷ [])) next → (n : Number) → number_in bytes ≡ n
      → 0 < (number_before most next n).next → There s at (number_text (number_before most next n).value end) (number_before most next n).next
  unfolding number_before number_text
  number_of next bytes started stands (Ok v) e h = go (leb v most) h
    where
      go : (t : Bool) → 0 < (valued v next t).next
          → There s at (digits (valued v next t).value ++ (end ∷ [])) (valued v next t).next
      go true h = record { started = started; stands = subst (λ (l : List ℕ). Stands s at (l ++ (end ∷ [])) next) (canonical bytes v e) stands }
      go false h = absurd (omega arith)
  number_of next bytes started stands (Err Unread.Large) e h = absurd (omega arith)
  number_of next bytes started stands (Err Unread.Malformed) e h = absurd (omega arith)

  pub number_there : 0 < (number_at s at end most).next → There s at (number_text (number_at s at end most).value end) (number_at s at end most).next
  unfolding number_at
  number_there =
      field_there no_number (λ p bytes. number_before most p (number_in bytes)) s at end
      (λ field. 0 < field.next → There s at (number_text field.value end) field.next)
      (λ h. absurd (omega arith))
      (λ next bytes started stands. number_of next bytes started stands (number_in bytes) refl)

  small_number : (next : ℕ) (n : Number) → (number_before most next n).value ≤ most
  unfolding number_before
  small_number next (Ok v) = go (leb v most) refl
    where
      go : (t : Bool) → leb v most ≡ t → (valued v next t).value ≤ most
      go true e = leb-true v most e
      go false e = omega arith
  small_number next (Err Unread.Large) = omega arith
  small_number next (Err Unread.Malformed) = omega arith

  -- in any case it keeps its limit
  pub number_small : (number_at s at end most).value ≤ most
  unfolding number_at
  number_small =
      field_there no_number (λ p bytes. number_before most p (number_in bytes)) s at end (λ field. field.value ≤ most)
      (omega arith)
      (λ next bytes started stands. small_number next (number_in bytes))

pub type_here : {s : List ℕ} {at end next : ℕ} {forest : Forest} → 0 < at → end < 48 → Stands s at (type_text forest end) next
    → type_at s at end ≡ record { forest = forest; next = next }
unfolding type_at type_text type_before
type_here {s} {at} {end} {next} {forest} started low stands =
    field_here no_type (λ p bytes. type_before p (named bytes)) s at end (letters_of forest) next started low (high_letters forest) stands
    ∙ ap (type_before next) (letters_name forest)

module _ (s : List ℕ) (at end : ℕ) where
  type_of : (next : ℕ) (bytes : List ℕ) → 0 < at → Stands s at (bytes ++ (end ∷ [])) next → (type : Option Forest) → named bytes ≡ type
      → 0 < (type_before next type).next → There s at (type_text (type_before next type).forest end) (type_before next type).next
  unfolding type_before type_text
  type_of next bytes started stands (Some forest) e h = record {
    started = started;
    stands = subst (λ (l : List ℕ). Stands s at (l ++ (end ∷ [])) next) (only_letters_name bytes forest e) stands;
  }
  type_of next bytes started stands None e h = absurd (omega arith)

  pub type_there : 0 < (type_at s at end).next → There s at (type_text (type_at s at end).forest end) (type_at s at end).next
  unfolding type_at
  type_there =
      field_there no_type (λ p bytes. type_before p (named bytes)) s at end
      (λ field. 0 < field.next → There s at (type_text field.forest end) field.next)
      (λ h. absurd (omega arith))
      (λ next bytes started stands. type_of next bytes started stands (named bytes) refl)
