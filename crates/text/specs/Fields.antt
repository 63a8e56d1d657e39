-- "Fields stand in fixed order parted by commas, no quoting".
use Rattle.std.specs.Prelude.{◌≡◌, ◌∷◌, ◌++◌}
use Rattle.laws.specs.{ℕ, cond, List, [], eqb, get_or, code, zero, suc, Bool, ltb, length}

abbrev pub comma : ℕ
comma = code ","

abbrev pub line_end : ℕ
line_end = 10

-- how many bytes stand before the first byte `end`, or in all
unfoldable pub width_to : ℕ → List ℕ → ℕ
width_to end [] = zero
width_to end (b ∷ bs) = cond (eqb b end) zero (suc (width_to end bs))

-- whether a byte stands among bytes
unfoldable pub holds : ℕ → List ℕ → Bool
holds b s = ltb (width_to b s) (length s)

-- a byte in front of the first field
unfoldable pub extend : ℕ → List (List ℕ) → List (List ℕ)
extend b [] = (b ∷ []) ∷ []
extend b (f ∷ fs) = (b ∷ f) ∷ fs

-- the fields of a line: at least one, which may be empty
unfoldable pub split : List ℕ → List (List ℕ)
split [] = [] ∷ []
split (b ∷ bs) = cond (eqb b comma) ([] ∷ split bs) (extend b (split bs))

-- the field at a place, and an empty one past the last
abbrev pub field_at : List (List ℕ) → ℕ → List ℕ
field_at fs k = get_or fs k []

unfoldable pub join_after : List ℕ → List (List ℕ) → List ℕ
join_after f [] = f
join_after f (g ∷ gs) = f ++ comma ∷ join_after g gs

-- fields with a comma between each two
unfoldable pub join : List (List ℕ) → List ℕ
join [] = []
join (f ∷ fs) = join_after f fs

-- a field holds no comma
unfoldable pub Plain : List ℕ → Type 0
Plain [] = Unit
Plain (b ∷ bs) = (b ≡ comma → ⊥) × Plain bs

unfoldable pub AllPlain : List (List ℕ) → Type 0
AllPlain [] = Unit
AllPlain (f ∷ fs) = Plain f × AllPlain fs
