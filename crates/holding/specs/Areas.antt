-- "A holding has up to 16 accounting areas ever (records are kept), each with up to 16 sub-areas." Of these, "the limit becomes 48" (document 02, item 4).
use Rattle.std.specs.Prelude.{◌&&◌, ◌∷◌, Option}
use Rattle.std.specs.List.{position_from}
use Rattle.laws.specs.{ℕ, Bool, true, false, cond, List, [], eqb, take, replicate}
use Rattle.units.specs.{Kilograms, no_kilograms}
use Rattle.forest.specs.{Forest}
use Rattle.ranges.specs.{is_bare}
use Rattle.holding.specs.declared.Residue.{Residue}
use Rattle.holding.specs.declared.Sub.{Sub}
use Rattle.holding.specs.declared.Area.{Area}
use Rattle.holding.specs.declared.Holding.{Holding}

abbrev pub most_areas : ℕ
most_areas = 16

abbrev pub most_subs : ℕ
most_subs = 48

-- the areas and sub-areas that stand, in order of opening and adding
abbrev pub areas_of : Holding → List Area
areas_of holding = take holding.count holding.areas

abbrev pub subs_of : Area → List Sub
subs_of area = take area.count area.subs

-- "no trees B,0; no residue B,0,0"
abbrev pub no_residue : Residue
no_residue = record { forest = Forest.Bare; age = 0; year = 0 }

-- whether a residue is that: bare type, age 0 and year 0
abbrev pub is_none : Residue → Bool
is_none residue = is_bare residue.forest && (eqb residue.age 0 && eqb residue.year 0)

-- "residue of the latest clearing": none or one
unfoldable pub residues_in : Residue → List Residue
residues_in residue = cond (is_none residue) [] (residue ∷ [])

abbrev pub residues_of : Sub → List Residue
residues_of sub = residues_in sub.residue

-- what a place holds where nothing stands
abbrev pub empty_sub : Sub
empty_sub = record { number = 0; tenths = record { 0 = 0 }; forest = Forest.Bare; planted = 0; residue = no_residue }

-- an area of a number and an opening year, with no sub-areas, returns, stock or units: "Each area has an open year (at first its opening)
-- and a latest year (greatest of its C and P entries, 0 if none)."
-- With room for so many sub-areas:
abbrev pub opened_with : ℕ → ℕ → ℕ → Area
opened_with places number opening = record {
  number = number;
  opening = opening;
  open_year = opening;
  latest = 0;
  withdrawn = false;
  returns = 0;
  stock = no_kilograms;
  received = 0;
  surrendered = 0;
  count = 0;
  subs = replicate places empty_sub;
}

abbrev pub opened_area : ℕ → ℕ → Area
opened_area = opened_with most_subs

abbrev pub empty_area : Area
empty_area = opened_area 0 0

abbrev pub empty_holding : Holding
empty_holding = record { count = 0; areas = replicate most_areas empty_area }

-- ---- a change of a sub-area or of an area, the rest as it was

abbrev pub with_trees : Forest → ℕ → Sub → Sub
with_trees forest planted sub = record { number = sub.number; tenths = sub.tenths; forest = forest; planted = planted; residue = sub.residue }

abbrev pub with_residue : Residue → Sub → Sub
with_residue residue sub = record { number = sub.number; tenths = sub.tenths; forest = sub.forest; planted = sub.planted; residue = residue }

-- all that changes in an area: its number and its opening stay
abbrev pub changed : (open_year latest : ℕ) (withdrawn : Bool) (returns : ℕ) (stock : Kilograms) (received surrendered count : ℕ) (subs : List Sub) → Area → Area
changed open_year latest withdrawn returns stock received surrendered count subs area = record {
  number = area.number;
  opening = area.opening;
  open_year = open_year;
  latest = latest;
  withdrawn = withdrawn;
  returns = returns;
  stock = stock;
  received = received;
  surrendered = surrendered;
  count = count;
  subs = subs;
}

abbrev pub with_subs : ℕ → List Sub → Area → Area
with_subs count subs a = changed a.open_year a.latest a.withdrawn a.returns a.stock a.received a.surrendered count subs a

abbrev pub with_latest : ℕ → Area → Area
with_latest year a = changed a.open_year year a.withdrawn a.returns a.stock a.received a.surrendered a.count a.subs a

abbrev pub with_stock : Kilograms → Area → Area
with_stock stock a = changed a.open_year a.latest a.withdrawn a.returns stock a.received a.surrendered a.count a.subs a

abbrev pub with_units : ℕ → ℕ → Area → Area
with_units received surrendered a = changed a.open_year a.latest a.withdrawn a.returns a.stock received surrendered a.count a.subs a

abbrev pub with_returns : ℕ → ℕ → Area → Area
with_returns open_year returns a = changed open_year a.latest a.withdrawn returns a.stock a.received a.surrendered a.count a.subs a

abbrev pub as_withdrawn : Area → Area
as_withdrawn a = changed a.open_year a.latest true a.returns a.stock a.received a.surrendered a.count a.subs a

-- the place of the first in a list whose number it is, the list beginning at the place i
unfoldable pub place_from : {A : Type 0} → (A → ℕ) → ℕ → ℕ → List A → Option ℕ
place_from number_of n i l = position_from (λ a. eqb (number_of a) n) i l

unfoldable pub find_area : Holding → ℕ → Option ℕ
find_area holding n = place_from (λ (a : Area). a.number) n 0 (areas_of holding)

unfoldable pub find_sub : Area → ℕ → Option ℕ
find_sub area n = place_from (λ (s : Sub). s.number) n 0 (subs_of area)
