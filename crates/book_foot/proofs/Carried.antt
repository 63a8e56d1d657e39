-- The areas of a holding whose fields a statement carries have few units, so that their totals fit; and every area surrendered at most what it received.
use Rattle.laws.proofs.{ℕ, ◌*◌, ◌≤◌, ◌<◌, max, ◌≡◌, sym, ap, ◌∙◌, Bool, true, false, arith, leb-true, le-leb, lt-leb, length, get_or, length-take, get_or-take}
use Rattle.laws.specs.{every, sum_by, all_of}
use Rattle.laws.proofs.Tests.{AllTrue, all_true, true_all}
use Rattle.holding.specs.{Area, Holding, most_areas, areas_of}
use Rattle.holding_look.specs.{balance_of, units_received, units_surrendered}
use Rattle.statement_carried.specs.{fields_carried, area_carried, carried, carried_within}
use Rattle.statement_carried.proofs.Bounds.{area-fields, bounds, most_units, units-few}
use Rattle.theorem_keeping.specs.{Each}
use Rattle.theorem_keeping.proofs.Lists.{each_at, sum_at_most, each_so, every_each, each_every}
use Rattle.book_foot.specs.{all_carried}

-- over all areas that stand
abbrev pub over_all : (Area → ℕ) → Holding → ℕ
over_all units holding = sum_by units (areas_of holding)

-- ---- a holding that a statement carries, and the bound of a total

pub carried_footed : (holding : Holding) → carried holding ≡ true → all_carried holding ≡ true
unfolding carried_within all_carried AllTrue
carried_footed holding e =
    let t = all_true _ e in
    let each = each_so _ _ area-fields (areas_of holding) (every_each area_carried (areas_of holding) t.1.0) in
    true_all _ (t.0, (each_every fields_carried (areas_of holding) each, tt))

-- a total is at most what all areas can have
abbrev pub most_total : ℕ
most_total = most_units * most_areas

-- ---- where all are carried

module _ (holding : Holding) where
  module _ (e : all_carried holding ≡ true) where
    pub few_stand : holding.count ≤ most_areas
    unfolding all_carried AllTrue
    few_stand = leb-true _ _ (all_true _ e).0

    each_carried : Each (λ (area : Area). fields_carried area ≡ true) (areas_of holding)
    unfolding all_carried AllTrue
    each_carried = every_each fields_carried (areas_of holding) (all_true _ e).1.0

    pub paid_at : (i : ℕ) (d : Area) → i < length (areas_of holding) → (get_or (areas_of holding) i d).surrendered ≤ (get_or (areas_of holding) i d).received
    paid_at i d h = (bounds _ (each_at _ (areas_of holding) i d h each_carried)).surrendered

    few-areas : length (areas_of holding) ≤ most_areas
    few-areas = omega (arith, length-take holding.count holding.areas, few_stand)

    total-few : (units : Area → ℕ) → ((area : Area) → units area ≤ max area.received area.surrendered) → over_all units holding ≤ most_total
    total-few units within =
        let each = each_so _ (λ (area : Area). units area ≤ most_units) (λ area c. omega (arith, within area, units-few area c)) (areas_of holding) each_carried in
        omega (arith, few-areas, sum_at_most units most_units (areas_of holding) each)

    pub received-few : over_all units_received holding ≤ most_total
    received-few = total-few units_received (λ area. omega arith)

    pub surrendered-few : over_all units_surrendered holding ≤ most_total
    surrendered-few = total-few units_surrendered (λ area. omega arith)

    pub balance-few : over_all balance_of holding ≤ most_total
    balance-few = total-few balance_of (λ area. omega arith)
