-- The pass over a statement's areas: each is judged as it stands, its number kept, its place noted if it is the one looked for, and its units added.
use Rattle.std.specs.Prelude.{◌+◌, ◌≡◌, Some, None, Option}
use Rattle.laws.specs.{ℕ, zero, suc, true, cond, List, map, eqb, length, take, every}
use Rattle.holding.specs.{Area, most_areas, empty_area}
use Rattle.holding_look.specs.{units_in}
use Rattle.statement_carried.specs.{area_carried}
use Rattle.statement_places.specs.{items_read, place_after, area_in, after_area}
use Rattle.statement_pass.specs.declared.AreasPassed.{AreasPassed}

-- an area looked for: where it is among the areas, the area, and the places where its lines start and end
pub record Sought : Type 0 where
  pub found : Option ℕ
  pub area : Area
  pub from : ℕ
  pub to : ℕ

abbrev pub not_there : List ℕ → Sought
not_there s = record { found = None; area = empty_area; from = length s; to = length s }

-- the first of that number among k areas from a place on, of which i stand before
unfoldable pub sought_from : List ℕ → ℕ → ℕ → ℕ → ℕ → Sought
sought_from s number i zero at = not_there s
sought_from s number i (suc k) at =
    cond (eqb (area_in s at).number number)
    (record { found = Some i; area = area_in s at; from = at; to = after_area s at })
    (sought_from s number (i + 1) k (after_area s at))

-- what is found of k areas from a place on
pub record PassesAreas (s : List ℕ) (at count number : ℕ) (r : AreasPassed) : Type 0 where
  pub kept : r.kept ≡ every area_carried (items_read (area_in s) (after_area s) count at)
  pub long : length r.numbers ≡ most_areas
  pub numbers : take count r.numbers ≡ map (λ (area : Area). area.number) (items_read (area_in s) (after_area s) count at)
  pub sought : record { found = r.found; area = r.area; from = r.from; to = r.to } ≡ sought_from s number 0 count at
  pub units : r.kept ≡ true → r.units ≡ units_in (items_read (area_in s) (after_area s) count at)
  pub next : r.next ≡ place_after (after_area s) count at
