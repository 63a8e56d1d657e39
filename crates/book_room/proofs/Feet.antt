-- The foot of a holding that a statement carries: F and the units of all areas, each total of at most 13 digits.
use Rattle.laws.proofs.{◌≤◌, ◌≡◌, sym, ap, arith, length}
use Rattle.holding.specs.{Holding}
use Rattle.holding_look.specs.{units_of}
use Rattle.book_foot.specs.{units_text, foot_of, most_for_foot}
use Rattle.book_foot.proofs.Carried.{carried_footed}
use Rattle.book_foot.proofs.Feet.{foot_stands, foot_few}
use Rattle.theorem_keeping.specs.{Kept}

module _ (holding : Holding) (kept : Kept holding) where
  pub kept_foot : units_text (units_of holding) ≡ foot_of holding
  kept_foot = foot_stands holding (carried_footed holding kept.carries)

  pub kept_foot_few : length (foot_of holding) ≤ most_for_foot
  kept_foot_few = omega (arith, ap length (sym kept_foot), foot_few holding (carried_footed holding kept.carries))
