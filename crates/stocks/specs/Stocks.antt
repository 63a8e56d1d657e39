-- Sub-area stock: "Stock on 1 January of year y, from S entries and from clearings and plantings of earlier years .."
-- `own` is the participant's table, `default` the cells of Schedule 6 as they are lent.
use Rattle.std.specs.Prelude.{◌+◌, ◌-◌}
use Rattle.laws.specs.{ℕ, cond, List, leb, ltb, sum_by}
use Rattle.units.specs.{Tenths, Kilograms, no_kilograms, trees_of, residue_of}
use Rattle.schedules.specs.{Kind}
use Rattle.rates.specs.{rate_six, share_after}
use Rattle.holding.specs.{Residue, Sub, Area, subs_of, residues_of}

-- "trees planted in p: tenths × stock cell at age (y − p) × 10"; trees that are planted after the year have none
unfoldable pub trees_on : List ℕ → List ℕ → Sub → ℕ → Kilograms
trees_on own default sub y =
    cond (ltb y sub.planted) no_kilograms (trees_of sub.tenths (rate_six own default Kind.Stock sub.forest (y - sub.planted)))

-- "residue of the latest clearing, in year c: tenths × residue cell at the age and type cleared × share, where share is .. at y − c"; a clearing that
-- is not of an earlier year has left none
unfoldable pub one_residue_on : List ℕ → List ℕ → Tenths → Residue → ℕ → Kilograms
one_residue_on own default land residue y =
    cond (leb y residue.year) no_kilograms
    (residue_of land (rate_six own default Kind.Residue residue.forest residue.age) (share_after (y - residue.year)))

-- the sum over the residues that a sub-area has
unfoldable pub residue_on : List ℕ → List ℕ → Sub → ℕ → Kilograms
residue_on own default sub y = record { 0 = sum_by (λ (residue : Residue). (one_residue_on own default sub.tenths residue y).0) (residues_of sub) }

unfoldable pub sub_stock : List ℕ → List ℕ → Sub → ℕ → Kilograms
sub_stock own default sub y = record { 0 = (trees_on own default sub y).0 + (residue_on own default sub y).0 }

-- "the sum over sub-areas"
unfoldable pub area_stock : List ℕ → List ℕ → Area → ℕ → Kilograms
area_stock own default area y = record { 0 = sum_by (λ (sub : Sub). (sub_stock own default sub y).0) (subs_of area) }
