-- Tests, sums and choices over a whole list, which several crates cite.
use Rattle.std.specs.Prelude.{ℕ, ◌+◌, Bool, true, false, cond, not, ◌&&◌, ◌||◌, eqb, ltb, leb}
use mathlib.Core.List.{List, [], ◌∷◌, foldl}

-- whether some element of a list passes a test
unfoldable pub some : {A : Type 0} → (A → Bool) → List A → Bool
some p [] = false
some p (a ∷ l) = p a || some p l

-- whether every element of a list passes a test
unfoldable pub every : {A : Type 0} → (A → Bool) → List A → Bool
every p [] = true
every p (a ∷ l) = p a && every p l

-- whether no two elements of a list bear the same number
unfoldable pub distinct : {A : Type 0} → (A → ℕ) → List A → Bool
distinct number_of [] = true
distinct number_of (a ∷ l) = not (some (λ b. eqb (number_of b) (number_of a)) l) && distinct number_of l

-- the elements that pass a test
unfoldable pub keep : {A : Type 0} → (A → Bool) → List A → List A
keep p [] = []
keep p (a ∷ l) = cond (p a) (a ∷ keep p l) (keep p l)

-- the sum of a measure over a list
unfoldable pub sum_by : {A : Type 0} → (A → ℕ) → List A → ℕ
sum_by f [] = 0
sum_by f (a ∷ l) = f a + sum_by f l

-- whether a number comes before another: it is greater, or on a tie another test decides
abbrev pub outranks : ℕ → ℕ → Bool → Bool
outranks a b tie = ltb b a || (eqb a b && tie)

-- each number is at most the ceiling
unfoldable pub each_at_most : ℕ → List ℕ → Bool
each_at_most ceiling [] = true
each_at_most ceiling (x ∷ xs) = leb x ceiling && each_at_most ceiling xs

unfoldable pub sum_of : List ℕ → ℕ
sum_of [] = 0
sum_of (x ∷ xs) = x + sum_of xs

-- tests that are all passed
unfoldable pub all_of : List Bool → Bool
all_of [] = true
all_of (b ∷ bs) = foldl ◌&&◌ b bs
