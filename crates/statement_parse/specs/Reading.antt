-- How a statement is read: field by field, each at the place after the one before; a number up to so many bits as hold its range,
-- which is judged afterwards. What is accepted so is a carried holding's bytes and no other: `accepts_just_when` (theorem_round_trips).
use Rattle.std.specs.Prelude.{◌+◌}
use Rattle.laws.specs.{ℕ, zero, suc, List, [], eqb, set, replicate, code}
use Rattle.text.specs.{comma, line_end}
use Rattle.holding.specs.{Sub, Area, most_areas, most_subs, empty_sub, opened_with, with_subs}
use Rattle.statement_cursor.specs.{number_at, type_at, start_at, line_at}
use Rattle.statement_parse.specs.declared.ResidueRead.{ResidueRead}
use Rattle.statement_parse.specs.declared.SubRead.{SubRead}
use Rattle.statement_parse.specs.declared.YearsRead.{YearsRead}
use Rattle.statement_parse.specs.declared.AmountsRead.{AmountsRead}
use Rattle.statement_parse.specs.declared.AreaRead.{AreaRead}
use Rattle.statement_parse.specs.declared.AreasRead.{AreasRead}
use Rattle.statement_parse.specs.declared.HoldingRead.{HoldingRead}

-- the greatest numbers of 8, 16 and 32 bits, and of fifteen digits
abbrev pub most8 : ℕ
most8 = 255

abbrev pub most16 : ℕ
most16 = 65535

abbrev pub most32 : ℕ
most32 = 4294967295

abbrev pub most_read : ℕ
most_read = 999999999999999

unfoldable pub residue_at : List ℕ → ℕ → ResidueRead
residue_at s at =
    let type = type_at s at comma in
    let age = number_at s type.next comma most16 in
    let year = number_at s age.next line_end most16 in
    record { residue = record { forest = type.forest; age = age.value; year = year.value }; next = year.next }

unfoldable pub sub_line_at : List ℕ → ℕ → SubRead
sub_line_at s at =
    let number = number_at s (line_at s at (code "S")) comma most8 in
    let tenths = number_at s number.next comma most32 in
    let type = type_at s tenths.next comma in
    let planted = number_at s type.next comma most16 in
    let residue = residue_at s planted.next in
    record {
      sub = record { number = number.value; tenths = record { 0 = tenths.value }; forest = type.forest; planted = planted.value; residue = residue.residue };
      next = residue.next;
    }

-- k more items put into a list from the place i on: the list, and the place in the bytes after them
unfoldable pub items_from : {A : Type 0} → (ℕ → A) → (ℕ → ℕ) → ℕ → ℕ → List A → ℕ → List A × ℕ
items_from item next zero i l at = (l, at)
items_from item next (suc k) i l at = items_from item next k (i + 1) (set l i (item at)) (next at)

unfoldable pub subs_from : List ℕ → ℕ → ℕ → List Sub → ℕ → List Sub × ℕ
subs_from s = items_from (λ at. (sub_line_at s at).sub) (λ at. (sub_line_at s at).next)

-- into so many places
unfoldable pub subs_within : ℕ → List ℕ → ℕ → ℕ → List Sub × ℕ
subs_within places s at count = subs_from s count 0 (replicate places empty_sub) at

unfoldable pub years_at : List ℕ → ℕ → YearsRead
years_at s at =
    let number = number_at s at comma most16 in
    let opening = number_at s number.next comma most16 in
    let open_year = number_at s opening.next comma most16 in
    let latest = number_at s open_year.next comma most16 in
    record { number = number.value; opening = opening.value; open_year = open_year.value; latest = latest.value; next = latest.next }

unfoldable pub amounts_at : List ℕ → ℕ → AmountsRead
amounts_at s at =
    let withdrawn = number_at s at comma 1 in
    let returns = number_at s withdrawn.next comma most16 in
    let stock = number_at s returns.next comma most_read in
    let received = number_at s stock.next comma most_read in
    let surrendered = number_at s received.next comma most_read in
    record {
      withdrawn = eqb withdrawn.value 1;
      returns = returns.value;
      stock = record { 0 = stock.value };
      received = received.value;
      surrendered = surrendered.value;
      next = surrendered.next;
    }

-- an area by the fields of its line, with no sub-area yet
abbrev pub area_begun : YearsRead → AmountsRead → Area
area_begun years amounts = record {
  number = years.number;
  opening = years.opening;
  open_year = years.open_year;
  latest = years.latest;
  withdrawn = amounts.withdrawn;
  returns = amounts.returns;
  stock = amounts.stock;
  received = amounts.received;
  surrendered = amounts.surrendered;
  count = 0;
  subs = [];
}

-- an area of at most so many sub-areas
unfoldable pub area_line_within : ℕ → List ℕ → ℕ → AreaRead
area_line_within most s at =
    let years = years_at s (line_at s at (code "A")) in
    let amounts = amounts_at s years.next in
    let count = number_at s amounts.next line_end most in
    let subs = subs_within most s count.next count.value in
    record { area = with_subs count.value subs.0 (area_begun years amounts); next = subs.1 }

unfoldable pub areas_from_within : ℕ → List ℕ → ℕ → ℕ → List Area → ℕ → List Area × ℕ
areas_from_within most s = items_from (λ at. (area_line_within most s at).area) (λ at. (area_line_within most s at).next)

unfoldable pub areas_within : ℕ → List ℕ → ℕ → ℕ → AreasRead
areas_within most s at count =
    let read = areas_from_within most s count 0 (replicate most_areas (opened_with most 0 0)) at in record { areas = read.0; next = read.1 }

unfoldable pub holding_within : ℕ → List ℕ → HoldingRead
holding_within most s =
    let count = number_at s (start_at s 0 (code "H")) line_end most_areas in
    let areas = areas_within most s count.next count.value in
    record { holding = record { count = count.value; areas = areas.areas }; next = areas.next }

-- ---- under the limit in force

abbrev pub area_line_at : List ℕ → ℕ → AreaRead
area_line_at = area_line_within most_subs

abbrev pub areas_from : List ℕ → ℕ → ℕ → List Area → ℕ → List Area × ℕ
areas_from = areas_from_within most_subs

abbrev pub areas_at : List ℕ → ℕ → ℕ → AreasRead
areas_at = areas_within most_subs

abbrev pub holding_at : List ℕ → HoldingRead
holding_at = holding_within most_subs
