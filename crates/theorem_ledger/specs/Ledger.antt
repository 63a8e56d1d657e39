-- "Plain ledger for demand 3": "The ledger has the same tables and is fed each step and whether it was accepted. It starts empty; a refused
-- step or a read-back changes nothing in it." `own` is the participant's table; the default is Schedule 6.
-- A sub's residues are read through `sub_stock` alone.
use Rattle.std.specs.Prelude.{◌+◌, ◌-◌, ◌∷◌, ◌++◌, ◌+ℤ◌, ◌-ℤ◌}
use Rattle.laws.specs.{ℕ, suc, Bool, true, false, cond, List, [], sum_by, ℤ, pos, eqb}
use Rattle.std.specs.Int.Signed.{le_z}
use Rattle.units.specs.{nearest_tonne}
use Rattle.forest.specs.{Forest}
use Rattle.schedules.specs.{schedule6}
use Rattle.line_entry.specs.{Act, AreaAct}
use Rattle.holding.specs.{Sub, no_residue, with_trees, with_residue}
use Rattle.stocks.specs.{sub_stock}

unfoldable pub change : {A : Type 0} → (A → ℕ) → ℕ → (A → A) → List A → List A
change number_of n f [] = []
change number_of n f (a ∷ l) = cond (eqb (number_of a) n) (f a ∷ l) (a ∷ change number_of n f l)

-- an area as the ledger keeps it
pub record Row : Type 0 where
  pub number : ℕ
  pub opening_year : ℕ
  pub subs : List Sub
  pub opening : ℕ
  pub closing : ℕ
  pub returns : ℕ
  pub sum : ℤ
  pub lowest : ℤ
  pub withdrawn : Bool

abbrev pub row_number : Row → ℕ
row_number row = row.number

abbrev pub sub_number : Sub → ℕ
sub_number sub = sub.number

-- all that changes in a row: its number and its opening year stay
abbrev pub row_with : (subs : List Sub) (opening closing returns : ℕ) (sum lowest : ℤ) (withdrawn : Bool) → Row → Row
row_with subs opening closing returns sum lowest withdrawn row = record {
  number = row.number;
  opening_year = row.opening_year;
  subs = subs;
  opening = opening;
  closing = closing;
  returns = returns;
  sum = sum;
  lowest = lowest;
  withdrawn = withdrawn;
}

-- "A opens an area with no subs, its returns, stocks, sum and lowest at nought."
abbrev pub opened : ℕ → ℕ → Row
opened number year = record {
  number = number;
  opening_year = year;
  subs = [];
  opening = 0;
  closing = 0;
  returns = 0;
  sum = pos 0;
  lowest = pos 0;
  withdrawn = false;
}

-- "S adds a sub without residue; its stock at the opening year is added to the opening and the closing stock."
abbrev pub added : List ℕ → Sub → Row → Row
added own sub r =
    let stock = (sub_stock own schedule6 sub r.opening_year).0 in
    row_with (r.subs ++ (sub ∷ [])) (r.opening + stock) (r.closing + stock) r.returns r.sum r.lowest r.withdrawn r

-- the area with another list of subs
abbrev pub with_subs : (List Sub → List Sub) → Row → Row
with_subs f r = row_with (f r.subs) r.opening r.closing r.returns r.sum r.lowest r.withdrawn r

-- "C takes the sub's trees away; their type, their age in that year and the year become its residue."
abbrev pub cleared : ℕ → Sub → Sub
cleared year sub = with_residue (record { forest = sub.forest; age = year - sub.planted; year = year }) (with_trees Forest.Bare 0 sub)

-- "P gives the sub trees of that type and year."
abbrev pub planted : Forest → ℕ → Sub → Sub
planted forest year sub = with_trees forest year sub

-- the lesser of two
abbrev pub lesser : ℤ → ℤ → ℤ
lesser a b = cond (le_z a b) a b

-- "R takes the subs' stock at last + 1 by the rule above"
abbrev pub stock_after : List ℕ → ℕ → Row → ℕ
stock_after own last row = sum_by (λ (sub : Sub). (sub_stock own schedule6 sub (last + 1)).0) row.subs

-- "this less the closing stock kept, rounded as under Entries, is the change"
abbrev pub change_of : List ℕ → ℕ → Row → ℤ
change_of own last row = nearest_tonne (pos (stock_after own last row) -ℤ pos row.closing)

-- "this stock is then the closing stock. The change is added to the sum, returns grow by one, and lowest becomes the smaller of itself and the sum."
abbrev pub returned : List ℕ → ℕ → Row → Row
returned own last r =
    let total = r.sum +ℤ change_of own last r in
    row_with r.subs r.opening (stock_after own last r) (suc r.returns) total (lesser r.lowest total) r.withdrawn r

-- "W marks the area withdrawn."
abbrev pub withdrawn_row : Row → Row
withdrawn_row r = row_with r.subs r.opening r.closing r.returns r.sum r.lowest true r

-- an accepted act on the area of a number
unfoldable pub entered : List ℕ → ℕ → Act → List Row → List Row
entered own area (Act.Open year) rows = rows ++ (opened area year ∷ [])
entered own area (Act.Add sub land forest year) rows =
    change row_number area (added own (record { number = sub; tenths = land; forest = forest; planted = year; residue = no_residue })) rows
entered own area (Act.Clear sub year) rows = change row_number area (with_subs (change sub_number sub (cleared year))) rows
entered own area (Act.Plant sub forest year) rows = change row_number area (with_subs (change sub_number sub (planted forest year))) rows
entered own area (Act.File last) rows = change row_number area (returned own last) rows
entered own area Act.Withdraw rows = change row_number area withdrawn_row rows

-- one step more, and whether it was accepted
abbrev pub noted_step : List ℕ → List Row → AreaAct → Bool → List Row
noted_step own rows on accepted = cond accepted (entered own on.area on.act rows) rows

-- "is fed each step and whether it was accepted": a step and that, the first step first
unfoldable pub noted : List ℕ → List Row → List (AreaAct × Bool) → List Row
noted own rows [] = rows
noted own rows (s ∷ steps) = noted own (noted_step own rows s.0 s.1) steps

-- "It starts empty"
abbrev pub ledger_of : List ℕ → List (AreaAct × Bool) → List Row
ledger_of own steps = noted own [] steps
