-- A list of tests is passed just when each of them is.
use mathlib.Core.Bool.{Bool, true, false, ◌&&◌}
use mathlib.Core.Path.{◌≡◌, refl}
use mathlib.Core.List.{List, [], ◌∷◌, foldl}
use Rattle.laws.specs.{all_of}
use Rattle.laws.proofs.Lists.{and_left, and_right}

unfoldable pub AllTrue : List Bool → Type 0
AllTrue [] = Unit
AllTrue (b ∷ bs) = (b ≡ true) × AllTrue bs

pub all_true : (bs : List Bool) → all_of bs ≡ true → AllTrue bs
unfolding all_of AllTrue
all_true [] e = tt
all_true (b ∷ bs) e = go b bs e
  where
    go : (b : Bool) (bs : List Bool) → foldl ◌&&◌ b bs ≡ true → (b ≡ true) × AllTrue bs
    go b [] e = (e, tt)
    go b (c ∷ cs) e = let rest = go (b && c) cs e in (and_left b c rest.0, (and_right b c rest.0, rest.1))

pub true_all : (bs : List Bool) → AllTrue bs → all_of bs ≡ true
unfolding all_of AllTrue
true_all [] t = refl
true_all (b ∷ bs) t = go b bs t.0 t.1
  where
    go : (b : Bool) (bs : List Bool) → b ≡ true → AllTrue bs → foldl ◌&&◌ b bs ≡ true
    go b [] e t = e
    go true (c ∷ cs) e t = go c cs t.0 t.1
    go false (c ∷ cs) e t = cc
