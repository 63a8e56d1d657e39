-- The bounds on an area's fields that a step relies on, read off the tests that its fields pass.
use Rattle.laws.proofs.{ℕ, ◌+◌, ◌-◌, ◌*◌, ◌≤◌, max, true, ◌≡◌, arith, leb, leb-true}
use Rattle.laws.proofs.Tests.{AllTrue, all_true}
use Rattle.laws.proofs.Lists.{and_left}
use Rattle.ranges.specs.{first_year, last_year}
use Rattle.holding.specs.{Area, most_subs}
use Rattle.statement_carried.specs.{stock_for_sub, received_for_return, years_carried, amounts_within, fields_carried, fields_within, area_carried, area_within}

pub record Bounds (area : Area) : Type 0 where
  pub count : area.count ≤ most_subs
  pub open_year_lem : area.open_year ≤ last_year + 1
  pub returns : area.returns + area.opening ≤ area.open_year
  pub stock : area.stock.0 ≤ stock_for_sub * area.count
  pub received : area.received ≤ received_for_return * area.returns
  pub surrendered : area.surrendered ≤ area.received

-- an area that is carried whole has such fields
pub area-fields : (area : Area) → area_carried area ≡ true → fields_carried area ≡ true
unfolding area_within AllTrue
area-fields area e = (all_true _ e).0

pub bounds : (area : Area) → fields_carried area ≡ true → Bounds area
unfolding fields_within years_carried amounts_within AllTrue
bounds area e =
    let fields = all_true _ e in
    let years = all_true _ fields.1.1.0 in
    let amounts = all_true _ fields.1.1.1.0 in
    record {
      count = leb-true _ _ fields.0;
      open_year_lem = leb-true _ _ years.1.1.0;
      returns = leb-true _ _ years.1.1.1.1.1.0;
      stock = leb-true _ _ amounts.0;
      received = leb-true _ _ amounts.1.0;
      surrendered = leb-true _ _ amounts.1.1.0;
    }

-- an area has a return for each of its years at most
abbrev pub most_units : ℕ
most_units = received_for_return * (last_year + 1 - first_year)

pub units-few : (area : Area) → fields_carried area ≡ true → max area.received area.surrendered ≤ most_units
unfolding fields_within years_carried AllTrue
units-few area e =
    let years = all_true _ (all_true _ e).1.1.0 in
    let opens = leb-true first_year area.opening (and_left (leb first_year area.opening) (leb area.opening last_year) years.0) in
    let b = bounds area e in
    omega (arith, b.open_year_lem, b.returns, b.received, b.surrendered)
