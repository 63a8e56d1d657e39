-- What a year within its range is.
use Rattle.laws.proofs.{ℕ, ◌≤◌, Bool, true, false, not, ◌&&◌, ◌≡◌, refl, leb-true, leb}
use Rattle.ranges.specs.{first_year, last_year, is_year}

pub year_at_most : (y : ℕ) → not (is_year y) ≡ false → y ≤ last_year
year_at_most y e = leb-true y last_year (go (leb first_year y) (leb y last_year) e)
  where
    go : (a b : Bool) → not (a && b) ≡ false → b ≡ true
    go true true e = refl
    go true false e = cc
    go false b e = cc
