-- What a statement carries, the reader has room for: each range lies within the number of bits that its field is read into.
use Rattle.laws.proofs.{ℕ, ◌≤◌, max, Bool, true, false, ◌||◌, ◌≡◌, refl, arith, eqb, eqb-true}
use Rattle.ranges.specs.{last_area, last_sub, last_year, is_bare, is_year}
use Rattle.holding.specs.{Sub, Area, Holding, most_areas, most_subs, empty_sub, empty_area}
use Rattle.theorem_keeping.specs.{Kept}
use Rattle.theorem_keeping.proofs.Within.{within, year_within, land_within}
use Rattle.theorem_keeping.proofs.Register.{Register, register_so}
use Rattle.theorem_keeping.proofs.Subs.{SubKept}
use Rattle.theorem_keeping.proofs.Areas.{area_number, sub_number, AreaKept, kept-areas}
use Rattle.statement_parse.specs.{most8, most16, most32, most_read}

pub record SubFits (sub : Sub) : Type 0 where
  pub number : sub.number ≤ most8
  pub tenths : sub.tenths.0 ≤ most32
  pub planted : sub.planted ≤ most16
  pub age : sub.residue.age ≤ most16
  pub year : sub.residue.year ≤ most16

pub record AreaFits (area : Area) : Type 0 where
  pub number : area.number ≤ most16
  pub opening : area.opening ≤ most16
  pub open_year_lem : area.open_year ≤ most16
  pub latest : area.latest ≤ most16
  pub returns : area.returns ≤ most16
  pub stock : area.stock.0 ≤ most_read
  pub received : area.received ≤ most_read
  pub surrendered : area.surrendered ≤ most_read
  pub subs : Register sub_number empty_sub SubFits most_subs area.count area.subs

latest_small : (y : ℕ) → (eqb y 0 || is_year y) ≡ true → y ≤ last_year
latest_small y e = go (eqb y 0) refl e
  where
    go : (t : Bool) → eqb y 0 ≡ t → (t || is_year y) ≡ true → y ≤ last_year
    go true p e = omega (arith, eqb-true y 0 p)
    go false p e = (year_within y e).1

sub-fits : (opening latest : ℕ) → opening ≤ last_year → latest ≤ last_year → (sub : Sub) → SubKept opening latest sub → SubFits sub
sub-fits opening latest h k sub kept =
    let residue = go (is_bare sub.residue.forest) refl in
    record {
      number = omega (arith, (within 1 sub.number last_sub kept.number).1);
      tenths = omega (arith, (land_within sub.tenths kept.land).1);
      planted = let p : sub.planted ≤ max opening latest = kept.planted in omega arith;
      age = residue.0;
      year = residue.1;
    }
  where
    go : (bare : Bool) → is_bare sub.residue.forest ≡ bare → (sub.residue.age ≤ most16) × (sub.residue.year ≤ most16)
    go true e = let none = kept.residue.none e in (omega (arith, none.0), omega (arith, none.1))
    go false e = let left = kept.residue.left e in (omega (arith, left.2), omega (arith, left.1))

area-fits : (area : Area) → AreaKept area → AreaFits area
area-fits area kept =
    let years = kept.fields.years in
    let amounts = kept.fields.amounts in
    let opening : area.opening ≤ last_year = (year_within area.opening years.opens).1 in
    let latest : area.latest ≤ last_year = latest_small area.latest years.changed in
    let count : area.count ≤ most_subs = kept.subs.room in
    let returns : area.returns ≤ 2200 = omega (arith, years.ends, years.yearly) in
    let received : area.received ≤ most_read = omega (arith, amounts.earned) in
    record {
      number = omega (arith, (within 1 area.number last_area kept.fields.number).1);
      opening = omega arith;
      open_year_lem = omega (arith, years.ends);
      latest = omega arith;
      returns = omega arith;
      stock = omega (arith, amounts.bounded);
      received = received;
      surrendered = omega (arith, amounts.owned);
      subs = register_so kept.subs SubFits (sub-fits area.opening area.latest opening latest);
    }

pub holding-fits : (holding : Holding) → Kept holding → Register area_number empty_area AreaFits most_areas holding.count holding.areas
holding-fits holding kept = register_so (kept-areas holding kept) AreaFits area-fits
