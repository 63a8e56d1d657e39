-- The ledger tried on the papers' examples: antt computes each.
use Rattle.laws.proofs.{ℕ, ◌≡◌, refl, Bool, true, false, List, [], ◌∷◌, map}
use lib.IntN.{ℤ, pos, negsuc}
use Rattle.laws.specs.{sum_of, sum_by}
use Rattle.units.specs.{trees_of, residue_of, tonnes, nearest_tonne}
use Rattle.forest.specs.{letters_of, Forest, Region}
use Rattle.schedules.specs.{joined, places_from, stock6, residue6, place_six, schedule6}
use Rattle.text.specs.{width_to}
use Rattle.table_parts.specs.{column_number, length_of}
use Rattle.table_lent.specs.{own_column}
use Rattle.rates.specs.{consulted, cell_at, rate_six, share_after}
use Rattle.line_entry.specs.{Act, AreaAct, on}
use Rattle.holding.specs.{residues_in}
use Rattle.stocks.specs.{trees_on, one_residue_on, residue_on, sub_stock}
use Rattle.theorem_ledger.specs.{change, Row, entered, noted, ledger_of}

-- the figures of a row
pub record Figures : Type 0 where
  pub opening : ℕ
  pub closing : ℕ
  pub returns : ℕ
  pub sum : ℤ
  pub lowest : ℤ
  pub withdrawn : Bool

abbrev figures : Row → Figures
figures row = record {
  opening = row.opening;
  closing = row.closing;
  returns = row.returns;
  sum = row.sum;
  lowest = row.lowest;
  withdrawn = row.withdrawn;
}

pub record Example : Type 0 where
  pub table : List ℕ
  pub steps : List (AreaAct × Bool)
  pub area : Figures

abbrev taken : ℕ → Act → AreaAct × Bool
taken area act = (on area act, true)

abbrev turned : ℕ → Act → AreaAct × Bool
turned area act = (on area act, false)

-- a sub-area of so many tenths
abbrev sub : ℕ → ℕ → Forest → ℕ → Act
sub number tenths forest planted = Act.Add number (record { 0 = tenths }) forest planted

abbrev examples : List Example
examples =
    -- the printed case: changes 55, -15 and 50, a clearing that is refused, and the withdrawal
    record {
      table = 0 ∷ 5 ∷ 0 ∷ 0 ∷ 0 ∷ 0 ∷ 5 ∷ 0 ∷ 0 ∷ 0 ∷ 0 ∷ 10 ∷ 45 ∷ 100 ∷ 200 ∷ 0 ∷ 5 ∷ 20 ∷ 50 ∷ 80 ∷ [];
      steps =
          taken 7 (Act.Open 2010)
          ∷ taken 7 (sub 1 100 Forest.DouglasFir 2008)
          ∷ taken 7 (Act.File 2010)
          ∷ taken 7 (Act.Clear 1 2011)
          ∷ taken 7 (Act.Plant 1 Forest.DouglasFir 2011)
          ∷ taken 7 (Act.File 2012)
          ∷ taken 7 (Act.File 2013)
          ∷ turned 7 (Act.Clear 2 2014)
          ∷ taken 7 Act.Withdraw
          ∷ [];
      area = record { opening = 45000; closing = 135000; returns = 3; sum = pos 90; lowest = pos 0; withdrawn = true };
    }
    -- "Area of 1 ha, H cells 100,70,120, planted and opened 2010: returns to 2010 and 2011 report −30, 50; .. balance 50"
    ∷ record {
      table = 0 ∷ 0 ∷ 0 ∷ 3 ∷ 0 ∷ 0 ∷ 0 ∷ 0 ∷ 0 ∷ 0 ∷ 1000 ∷ 700 ∷ 1200 ∷ [];
      steps =
          taken 1 (Act.Open 2010)
          ∷ taken 1 (sub 1 10 Forest.ExoticHardwoods 2010)
          ∷ taken 1 (Act.File 2010)
          ∷ taken 1 (Act.File 2011)
          ∷ [];
      area = record { opening = 100000; closing = 120000; returns = 2; sum = pos 20; lowest = negsuc 29; withdrawn = false };
    }
    -- the guide's 6.2 over the default tables: 8519 t, then -12128 t after radiata of 18 years is harvested and hardwoods are planted
    ∷ record {
      table = [];
      steps =
          taken 1 (Act.Open 2008)
          ∷ taken 1 (sub 1 458 (Forest.Radiata Region.Auckland) 1996)
          ∷ taken 1 (Act.File 2012)
          ∷ turned 1 (Act.File 2011)
          ∷ taken 1 (Act.Clear 1 2014)
          ∷ taken 1 (Act.Plant 1 Forest.ExoticHardwoods 2014)
          ∷ taken 1 (Act.File 2017)
          ∷ [];
      area = record { opening = 11404200; closing = 7795160; returns = 2; sum = negsuc 3608; lowest = negsuc 3608; withdrawn = false };
    }
    ∷ []

abbrev AllHold : List Example → Type 0
AllHold [] = Unit
AllHold (e ∷ es) = (map figures (ledger_of e.table e.steps) ≡ e.area ∷ []) × AllHold es

pub examples_hold : AllHold examples
unfolding sum_of sum_by trees_of residue_of tonnes nearest_tonne joined places_from stock6 residue6 place_six schedule6 width_to letters_of column_number length_of own_column consulted cell_at rate_six share_after trees_on residues_in one_residue_on residue_on sub_stock change entered noted
examples_hold = (refl, (refl, (refl, tt)))
