-- Where the numbers are those of the areas, the place of a number among those that stand is the place of the area that bears it. So the area that a loop takes
-- out of its own holding for a line is the area looked up for it.
use Rattle.std.specs.Prelude.{Ok, Option}
use Rattle.laws.proofs.{ℕ, ◌≡◌, sym, ap, ◌∙◌, List, take}
use Rattle.laws.proofs.Standing.{take-map}
use Rattle.line_entry.specs.{AreaAct, Entry, Parsed}
use Rattle.holding.specs.{Area, Holding, areas_of, numbers_in, find_area}
use Rattle.holding.proofs.Stands.{place_of-numbers}
use Rattle.holding_look.specs.{Looked, area_at, looked_at, looked_up}
use Rattle.holding_look.proofs.Laws.{looked_as}
use Rattle.book_find.specs.{Named, place_in, named_by}

pub place_in-holding : (holding : Holding) (numbers : List ℕ) (n : ℕ) → numbers ≡ numbers_in holding.areas
    → place_in (take holding.count numbers) n ≡ find_area holding n
unfolding find_area
place_in-holding holding numbers n e =
    ap (λ (l : List ℕ). place_in (take holding.count l) n) e
    ∙ ap (λ (l : List ℕ). place_in l n) (take-map _ holding.count holding.areas)
    ∙ sym (place_of-numbers _ n 0 (areas_of holding))

module _ (holding : Holding) (numbers : List ℕ) where
  -- the area that a line names
  abbrev pub looked_for : Parsed → Looked
  looked_for parsed = let names = named_by (take holding.count numbers) parsed in looked_at holding names.number names.found

  pub looked_for_lem : (parsed : Parsed) (names : Named) (found : Option ℕ) (area : Area) → names ≡ named_by (take holding.count numbers) parsed → found ≡ names.found
      → area ≡ area_at holding found → record { number = names.number; count = holding.count; found = found; area = area } ≡ looked_for parsed
  looked_for_lem parsed names found area n f a =
      looked_as holding names.number found names.found area f a ∙ ap (λ (x : Named). looked_at holding x.number x.found) n

  pub looked_up_lem : numbers ≡ numbers_in holding.areas → (on : AreaAct) → looked_for (Ok (Entry.On on)) ≡ looked_up holding on.area
  looked_up_lem e on = ap (looked_at holding on.area) (place_in-holding holding numbers on.area e)
