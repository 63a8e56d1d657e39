-- What the library's tests of a whole list say in our words.
use mathlib.Core.Bool.{Bool, ◌||◌}
use mathlib.Core.Path.{◌≡◌, refl, ap}
use mathlib.Core.List.{List, [], ◌∷◌}
use Rattle.std.specs.List.{list_any}
use Rattle.laws.specs.{some}

pub any_is_some : {A : Type 0} (p : A → Bool) (l : List A) → list_any p l ≡ some p l
unfolding some
any_is_some p [] = refl
any_is_some p (a ∷ l) = ap (λ (b : Bool). p a || b) (any_is_some p l)
