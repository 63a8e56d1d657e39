-- Rules: what a verdict makes of an entry, and that every letter's table rises, so that what refuses is the smallest number that applies.
use Rattle.std.specs.Prelude.{Ok, Err, Some, None, Option}
use Rattle.laws.proofs.{ℕ, ◌≤◌, ◌<◌, ◌≡◌, refl, sym, ap, ◌∙◌, Bool, true, false, lit≤, List, [], ◌∷◌, arith, length, get_or}
use Rattle.text.specs.{split, field_at}
use Rattle.text_number.specs.{Number, number_in}
use Rattle.text_value.specs.{outside, value_of, fitted}
use Rattle.text_value.proofs.Laws.{fitted_is}
use Rattle.text_field.specs.{Places, places_of, part}
use Rattle.text_field.proofs.Laws.{field_found}
use Rattle.refusals.specs.{Refusal, Verdict}
use Rattle.forest.specs.{Forest}
use Rattle.line_entry.specs.{Entry, letter_in, number_at, parsed}
use Rattle.ranges.specs.{is_bare}
use Rattle.line_type.specs.{misdated_if, misdated}

-- the verdict w that was reached is the definition's, v
pub turned : (v w : Verdict) (e : Entry) (r : Refusal) → w ≡ v → w ≡ Err r → Err r ≡ parsed v e
unfolding parsed
turned v w e r p q = simp (sym p, q)

pub taken : (v w : Verdict) (e f : Entry) → w ≡ v → w ≡ Ok tt → f ≡ e → Ok f ≡ parsed v e
unfolding parsed
taken v w e f p q h = simp (sym p, q, h)

-- what was read of a field that a scan found
pub found : {A : Type 0} (read : List ℕ → A) (s : List ℕ) (places : Places) (k : ℕ) (a : A) → places ≡ places_of (split s) → k < 6 → a ≡ read (part s places k) → a ≡ read (field_at (split s) k)
found read s places k a scanned h e = e ∙ ap read (field_found s places scanned k h)

pub number-found : (s : List ℕ) (places : Places) (k : ℕ) (n : Number) → places ≡ places_of (split s) → k < 6 → n ≡ number_in (part s places k) → n ≡ number_at (split s) k
number-found s places k n scanned h e = found number_in s places k n scanned h e

-- a number that was read and lies within a range that fits
pub value_found : (low high greatest : ℕ) (n m : Number) (v : ℕ) → v ≡ fitted greatest n → n ≡ m → high ≤ greatest → outside low high m ≡ false → v ≡ value_of m
value_found low high greatest n m v e q h i = e ∙ ap (fitted greatest) q ∙ fitted_is low high greatest m h i

-- a year of planting that goes with its type
pub planted-found : (type : Option Forest) (n m : Number) (v : ℕ) → v ≡ fitted 65535 n → n ≡ m → misdated type m ≡ false → v ≡ value_of m
planted-found type n m v e q i = go type i
  where
    dated : (bare : Bool) → misdated_if bare m ≡ false → v ≡ value_of m
    dated true i = value_found 0 0 65535 n m v e q (lit≤ tt) i
    dated false i = value_found 1900 2199 65535 n m v e q (lit≤ tt) i

    go : (type : Option Forest) → misdated type m ≡ false → v ≡ value_of m
    go (Some forest) i = dated (is_bare forest) i
    go None i = dated false i

-- ---- the letter that a field is

pub letter_alone : (s : List ℕ) → length s ≡ 1 → get_or s 0 0 ≡ letter_in s
unfolding letter_in
letter_alone [] h = absurd (omega arith)
letter_alone (b ∷ []) h = refl
letter_alone (b ∷ d ∷ s) h = absurd (omega arith)

pub no_letter : (s : List ℕ) → (length s ≡ 1 → ⊥) → 0 ≡ letter_in s
unfolding letter_in
no_letter [] h = refl
no_letter (b ∷ []) h = absurd (h refl)
no_letter (b ∷ d ∷ s) h = refl
