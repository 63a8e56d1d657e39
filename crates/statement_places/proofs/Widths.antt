-- How far it is to the byte that ends a field. A field's bytes are digits and letters, 48 and above, and the byte that ends it, 44 or 10, is below
-- them: so a field's width is the number of its bytes.
use Rattle.laws.proofs.{ℕ, suc, ◌+◌, ◌/◌, ◌%◌, ◌≤◌, ◌<◌, ◌≡◌, refl, ap, List, [], ◌∷◌, ◌++◌, arith, eq-eqb, ne_eqb, length}
use Rattle.text.specs.{width_to, digits}
use Rattle.text.proofs.Digits.{digits_ind, digits_small, digits_step}
use Rattle.forest.specs.{Forest, letters_of}

-- no byte below 48
unfoldable pub High : List ℕ → Type 0
High [] = Unit
High (b ∷ bs) = (48 ≤ b) × High bs

high_append : (xs ys : List ℕ) → High xs → High ys → High (xs ++ ys)
unfolding High
high_append [] ys a b = b
high_append (x ∷ xs) ys a b = (a.0, high_append xs ys a.1 b)

high_digit : (d : ℕ) → High ((48 + d) ∷ [])
unfolding High
high_digit d = (omega arith, tt)

pub high_digits : (n : ℕ) → High (digits n)
high_digits =
    digits_ind (λ n. High (digits n))
    (λ n h. rw (digits_small n h) (high_digit n))
    (λ n h before. rw (digits_step n h) (high_append (digits (n / 10)) ((48 + n % 10) ∷ []) before (high_digit (n % 10))))

pub high_letters : (forest : Forest) → High (letters_of forest)
unfolding High letters_of
high_letters Forest.Bare = (omega arith, tt)
high_letters (Forest.Radiata region) = (omega arith, (omega arith, tt))
high_letters Forest.DouglasFir = (omega arith, tt)
high_letters Forest.ExoticSoftwoods = (omega arith, tt)
high_letters Forest.ExoticHardwoods = (omega arith, tt)
high_letters Forest.Indigenous = (omega arith, tt)

pub width_high : (end : ℕ) (bs rest : List ℕ) → end < 48 → High bs → width_to end (bs ++ end ∷ rest) ≡ length bs
unfolding High width_to
width_high end [] rest low high = simp (eq-eqb end end refl)
width_high end (b ∷ bs) rest low high =
    simp (ne_eqb b end (λ e. let h : 48 ≤ b = high.0 in omega arith)) (ap suc (width_high end bs rest low high.1))
