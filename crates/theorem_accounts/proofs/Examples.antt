-- The papers' examples, run: what the engine reports for the area, as antt computes it.
use Rattle.laws.proofs.{ℕ, ◌≡◌, refl, List, [], ◌∷◌}
use lib.IntN.{pos, negsuc}
use Rattle.laws.specs.{sum_of, each_at_most, all_of, sum_by}
use Rattle.refusals.specs.{weighed, weigh_all, smallest}
use Rattle.units.specs.{trees_of, residue_of, tonnes, value, change_between}
use Rattle.forest.specs.{letters_of, Forest}
use Rattle.schedules.specs.{place_six, schedule6}
use Rattle.text.specs.{width_to}
use Rattle.table_parts.specs.{column_number, length_of}
use Rattle.table.specs.{has_columns, is_table, judged}
use Rattle.table_lent.specs.{own_column}
use Rattle.rates.specs.{consulted, cell_at, rate_six, share_after}
use Rattle.stocks.specs.{trees_on, one_residue_on, residue_on, sub_stock, area_stock}
use Rattle.line_entry.specs.{Act, AreaAct, on}
use Rattle.holding.specs.{empty_holding, place_from, find_area, find_sub, residues_in}
use Rattle.holding_look.specs.{area_at, sub_at, with_sub}
use Rattle.statement_carried.specs.{years_carried, amounts_within, fields_within}
use Rattle.step_outcome.specs.{answered, placed, area_cases}
use Rattle.step_open.specs.{open_cases, opened}
use Rattle.step_add.specs.{add_cases, added_area, added}
use Rattle.step_clear.specs.{clear_cases, cleared_sub, cleared_area, cleared}
use Rattle.step_plant.specs.{plant_cases, planted_sub, planted_area, planted}
use Rattle.step_file.specs.{file_cases, change_of, filed_area, return_of, filed}
use Rattle.step_withdraw.specs.{withdraw_cases, withdrawn_area, withdrawn}
use Rattle.step.specs.{applied, stepped, outcomes_from}
use Rattle.theorem_accounts.specs.{Reported, nothing_reported, reported_with, reported_from}

pub record Example : Type 0 where
  pub table : List ℕ
  pub entries : List AreaAct
  pub area : ℕ
  pub reported : Reported

-- a sub-area of so many tenths
abbrev sub : ℕ → ℕ → Forest → ℕ → Act
sub number tenths forest planted = Act.Add number (record { 0 = tenths }) forest planted

abbrev examples : List Example
examples =
    -- the printed case: changes 55, -15 and 50, a clearing that is refused, and the withdrawal
    record {
      table = 0 ∷ 5 ∷ 0 ∷ 0 ∷ 0 ∷ 0 ∷ 5 ∷ 0 ∷ 0 ∷ 0 ∷ 0 ∷ 10 ∷ 45 ∷ 100 ∷ 200 ∷ 0 ∷ 5 ∷ 20 ∷ 50 ∷ 80 ∷ [];
      entries =
          on 7 (Act.Open 2010)
          ∷ on 7 (sub 1 100 Forest.DouglasFir 2008)
          ∷ on 7 (Act.File 2010)
          ∷ on 7 (Act.Clear 1 2011)
          ∷ on 7 (Act.Plant 1 Forest.DouglasFir 2011)
          ∷ on 7 (Act.File 2012)
          ∷ on 7 (Act.File 2013)
          ∷ on 7 (Act.Clear 2 2014)
          ∷ on 7 Act.Withdraw
          ∷ [];
      area = 7;
      reported = record { changes = pos 55 ∷ negsuc 14 ∷ pos 50 ∷ []; received = 105; surrendered = 105; balance = 0 };
    }
    -- "Area of 1 ha, H cells 100,70,120, planted and opened 2010: returns to 2010 and 2011 report −30, 50; due 0; balance 50."
    ∷ record {
      table = 0 ∷ 0 ∷ 0 ∷ 3 ∷ 0 ∷ 0 ∷ 0 ∷ 0 ∷ 0 ∷ 0 ∷ 1000 ∷ 700 ∷ 1200 ∷ [];
      entries = on 1 (Act.Open 2010) ∷ on 1 (sub 1 10 Forest.ExoticHardwoods 2010) ∷ on 1 (Act.File 2010) ∷ on 1 (Act.File 2011) ∷ [];
      area = 1;
      reported = record { changes = negsuc 29 ∷ pos 50 ∷ []; received = 50; surrendered = 0; balance = 50 };
    }
    ∷ []

abbrev AllHold : List Example → Type 0
AllHold [] = Unit
AllHold (e ∷ es) = (reported_from e.area nothing_reported (outcomes_from e.table empty_holding e.entries) ≡ e.reported) × AllHold es

pub examples_hold : AllHold examples
unfolding all_of sum_of each_at_most sum_by weighed weigh_all smallest trees_of residue_of tonnes value change_between place_six schedule6 has_columns is_table judged width_to letters_of column_number length_of own_column consulted cell_at rate_six share_after trees_on residues_in one_residue_on residue_on sub_stock area_stock place_from find_area find_sub area_at sub_at with_sub years_carried amounts_within fields_within answered placed area_cases open_cases opened add_cases added_area added clear_cases cleared_sub cleared_area cleared plant_cases planted_sub planted_area planted file_cases change_of filed_area return_of filed withdraw_cases withdrawn_area withdrawn applied stepped outcomes_from reported_with reported_from
examples_hold = (refl, (refl, tt))
