-- Every step but an opening changes the one area that it looked up: if the verdict is clear, that area stands and is kept, and put back under its
-- number it leaves the others as they were.
use Rattle.std.specs.Prelude.{Ok, Some, None, Option}
use Rattle.laws.proofs.{ℕ, true, ◌≡◌, refl, sym, List}
use Rattle.laws.proofs.Elements.{clash}
use Rattle.refusals.specs.{Case, smallest, Verdict}
use Rattle.holding.specs.{Area, Holding, empty_area, find_area}
use Rattle.holding_look.specs.{known, area_at}
use Rattle.step_outcome.specs.{Report, accepted, answered, placed_at, placed}
use Rattle.theorem_keeping.proofs.Register.{register_at, register_put}
use Rattle.theorem_keeping.proofs.Areas.{AreaKept, AreasKept}
use Rattle.theorem_keeping.proofs.Answers.{answer_has}

-- what an accepted change keeps: the area was found, and after it the area has its number and is kept
pub record Changed (found : Option ℕ) (area after : Area) : Type 0 where
  pub stands : known found ≡ true
  pub number : after.number ≡ area.number
  pub keeps : AreaKept area → AreaKept after

module _ (holding : Holding) (kept : AreasKept holding) (number : ℕ) where
  pub area-found : known (find_area holding number) ≡ true → AreaKept (area_at holding (find_area holding number))
  unfolding find_area area_at
  area-found k = go (find_area holding number) refl k
    where
      go : (found : Option ℕ) → find_area holding number ≡ found → known found ≡ true → AreaKept (area_at holding found)
      go (Some i) e k = register_at kept number i empty_area e
      go None e k = clash (sym k)

  area_put : (after : Area) → Changed (find_area holding number) (area_at holding (find_area holding number)) after
      → AreasKept (placed_at holding (find_area holding number) holding.count after)
  unfolding find_area area_at
  area_put after c = go (find_area holding number) refl c.stands c.number (c.keeps (area-found c.stands))
    where
      go : (found : Option ℕ) → find_area holding number ≡ found → known found ≡ true → after.number ≡ (area_at holding found).number → AreaKept after
          → AreasKept (placed_at holding found holding.count after)
      go (Some i) e k same a = register_put kept number i after empty_area e same a
      go None e k same a = clash (sym k)

  pub change_keeps : (cases : List Case) (report : Report) (after : Area)
      → (smallest cases ≡ Ok tt → Changed (find_area holding number) (area_at holding (find_area holding number)) after)
      → AreasKept (placed holding (answered (smallest cases) (accepted report (find_area holding number) holding.count after)))
  unfolding placed
  change_keeps cases report after changed =
      answer_has holding (accepted report (find_area holding number) holding.count after) AreasKept (smallest cases) kept (λ e. area_put after (changed e))
