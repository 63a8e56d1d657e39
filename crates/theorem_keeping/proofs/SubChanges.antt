-- A clearing or a planting changes the one sub-area that it looked up. The latest year grows, which every other sub-area bears.
use Rattle.std.specs.Prelude.{Some, None, Option}
use Rattle.laws.proofs.{ℕ, ◌≤◌, max, Bool, true, false, ◌||◌, ◌≡◌, refl, sym, arith, eqb}
use Rattle.laws.proofs.Elements.{clash}
use Rattle.ranges.specs.{is_year}
use Rattle.holding.specs.{Sub, Area, empty_sub, find_sub}
use Rattle.holding_look.specs.{known, sub_at, with_sub, subs_with}
use Rattle.theorem_keeping.proofs.Register.{register_at, register_put, register_so}
use Rattle.theorem_keeping.proofs.Subs.{SubKept, sub_later}
use Rattle.theorem_keeping.proofs.Areas.{SubsKept, AreaKept}

-- what an accepted change keeps: the sub-area was found, the year is in range and no earlier than the latest, and after it the sub-area has its
-- number and is kept under that year
pub record SubChanged (area : Area) (found : Option ℕ) (after : Sub) (year : ℕ) : Type 0 where
  pub stands : known found ≡ true
  pub ranged : is_year year ≡ true
  pub grows : area.latest ≤ year
  pub number : after.number ≡ (sub_at area found).number
  pub keeps : SubKept area.opening area.latest (sub_at area found) → SubKept area.opening year after

or_so : (a b : Bool) → b ≡ true → (a || b) ≡ true
or_so true b e = refl
or_so false b e = e

module _ (area : Area) (k : AreaKept area) (number : ℕ) where
  sub-found : (found : Option ℕ) → find_sub area number ≡ found → known found ≡ true → SubKept area.opening area.latest (sub_at area found)
  unfolding find_sub sub_at
  sub-found (Some i) e t = register_at k.subs number i empty_sub e
  sub-found None e t = clash (sym t)

  sub_put : (found : Option ℕ) (after : Sub) (year : ℕ) → find_sub area number ≡ found → SubChanged area found after year
      → SubsKept area.opening year area.count (subs_with area.subs found after)
  unfolding find_sub sub_at
  sub_put (Some i) after year e c =
      let later = register_so k.subs (SubKept area.opening year) (sub_later area.opening area.latest year c.grows) in
      register_put later number i after empty_sub e c.number (c.keeps (sub-found (Some i) e refl))
  sub_put None after year e c = clash (sym c.stands)

  pub sub-change_keeps : (after : Sub) (year : ℕ) → SubChanged area (find_sub area number) after year → AreaKept (with_sub area (find_sub area number) after year)
  unfolding with_sub
  sub-change_keeps after year c =
      let years = k.fields.years in
      let latest : max area.latest year ≡ year = omega (arith, c.grows) in
      rw latest (record {
        fields = record {
          number = k.fields.number;
          years = record {
            opens = years.opens;
            changed = or_so (eqb year 0) (is_year year) c.ranged;
            ends = years.ends;
            starts = years.starts;
            unfiled = years.unfiled;
            yearly = years.yearly;
          };
          amounts = k.fields.amounts;
        };
        subs = sub_put (find_sub area number) after year refl c;
      })
