-- The printed case of document 01, run with read-backs among its entries: what is reported, and the statement after it, as antt computes them.
use Rattle.std.specs.Prelude.{Ok, Err}
use Rattle.laws.proofs.{ℕ, ◌≡◌, refl, List, [], ◌∷◌, map, replicate}
use lib.IntN.{pos, negsuc}
use Rattle.laws.specs.{sum_of, each_at_most, all_of, some, every, distinct, sum_by}
use Rattle.refusals.specs.{weighed, weigh_all, smallest, written, buffer_after, Refusal, Verdict}
use Rattle.units.specs.{trees_of, residue_of, tonnes, value, change_between}
use Rattle.forest.specs.{letters_of, beside, letter_names, region_names, named, Forest}
use Rattle.schedules.specs.{place_six, schedule6}
use Rattle.table_parts.specs.{column_number, length_of}
use Rattle.table.specs.{has_columns, is_table, judged}
use Rattle.table_lent.specs.{own_column}
use Rattle.rates.specs.{consulted, cell_at, rate_six, share_after}
use Rattle.text.specs.{width_to, digits_in, digits}
use Rattle.text_number.specs.{append, more, headed, number_in}
use Rattle.stocks.specs.{trees_on, one_residue_on, residue_on, sub_stock, area_stock}
use Rattle.line_entry.specs.{Act, on}
use Rattle.holding.specs.{place_from, find_area, find_sub, residues_in}
use Rattle.holding_look.specs.{area_at, sub_at, with_sub}
use Rattle.statement_carried.specs.{years_carried, amounts_within, fields_within, residue_carried, sub_carried, area_within, carried_within}
use Rattle.step_outcome.specs.{Outcome, answered, placed, area_cases}
use Rattle.step_open.specs.{open_cases, opened}
use Rattle.step_add.specs.{add_cases, added_area, added}
use Rattle.step_clear.specs.{clear_cases, cleared_sub, cleared_area, cleared}
use Rattle.step_plant.specs.{plant_cases, planted_sub, planted_area, planted}
use Rattle.step_file.specs.{file_cases, change_of, filed_area, return_of, filed}
use Rattle.step_withdraw.specs.{withdraw_cases, withdrawn_area, withdrawn}
use Rattle.step.specs.{applied, stepped}
use Rattle.theorem_accounts.specs.{reported_with, reported_from}
use Rattle.statement_format.specs.{start_text, number_text, type_text, joined, texts, residue_text, residues_text, sub_text, years_text, amounts_text, area_text, statement_of}
use Rattle.statement_write.specs.{writable}
use Rattle.statement_cursor.specs.{field_of, field_by, number_before, number_at, type_before, type_at, start_at, line_at}
use Rattle.statement_parse.specs.{residue_at, items_from, subs_from, subs_within, years_at, amounts_at, areas_from_within, areas_within, holding_within}
use Rattle.statement_parse.specs.Reading as Reading
use Rattle.statement.specs.{acceptable_within, read_within}
use Rattle.theorem_demand_three.specs.{Step, result_of, holding_from, outcomes_from, holding_after, outcomes_of, reported_for}

abbrev table : List ℕ
table = 0 ∷ 5 ∷ 0 ∷ 0 ∷ 0 ∷ 0 ∷ 5 ∷ 0 ∷ 0 ∷ 0 ∷ 0 ∷ 10 ∷ 45 ∷ 100 ∷ 200 ∷ 0 ∷ 5 ∷ 20 ∷ 50 ∷ 80 ∷ []

-- a read-back with so many bytes of output
abbrev room : ℕ → Step
room bytes = Step.ReadBack (replicate bytes 0)

abbrev steps : List Step
steps =
    room 3
    ∷ Step.Enter (on 7 (Act.Open 2010))
    ∷ Step.Enter (on 7 (Act.Add 1 (record { 0 = 100 }) Forest.DouglasFir 2008))
    ∷ Step.Enter (on 7 (Act.File 2010))
    ∷ room 100
    ∷ Step.Enter (on 7 (Act.Clear 1 2011))
    ∷ room 20
    ∷ Step.Enter (on 7 (Act.Plant 1 Forest.DouglasFir 2011))
    ∷ Step.Enter (on 7 (Act.File 2012))
    ∷ Step.Enter (on 7 (Act.File 2013))
    ∷ Step.Enter (on 7 (Act.Clear 2 2014))
    ∷ Step.Enter (on 7 Act.Withdraw)
    ∷ room 68
    ∷ []

-- the statement after it:
-- H,1
-- A,7,2010,2014,2011,1,3,135000,105,105,1
-- S,1,100,D,2011,D,3,2011
abbrev pieces : List (List ℕ)
pieces =
    (72 ∷ 44 ∷ 49 ∷ 10 ∷ [])
    ∷ (65 ∷ 44 ∷ 55 ∷ 44 ∷ 50 ∷ 48 ∷ 49 ∷ 48 ∷ 44 ∷ 50 ∷ 48 ∷ 49 ∷ 52 ∷ 44 ∷ 50 ∷ 48 ∷ 49 ∷ 49 ∷ 44 ∷ [])
    ∷ (49 ∷ 44 ∷ 51 ∷ 44 ∷ 49 ∷ 51 ∷ 53 ∷ 48 ∷ 48 ∷ 48 ∷ 44 ∷ 49 ∷ 48 ∷ 53 ∷ 44 ∷ 49 ∷ 48 ∷ 53 ∷ 44 ∷ 49 ∷ 10 ∷ [])
    ∷ (83 ∷ 44 ∷ 49 ∷ 44 ∷ 49 ∷ 48 ∷ 48 ∷ 44 ∷ 68 ∷ 44 ∷ 50 ∷ 48 ∷ 49 ∷ 49 ∷ 44 ∷ 68 ∷ 44 ∷ 51 ∷ 44 ∷ 50 ∷ 48 ∷ 49 ∷ 49 ∷ 10 ∷ [])
    ∷ []

-- what the steps answer, what is reported for the area 7, and the statement
pub record Printed : Type 0 where
  -- two read-backs have too little room, and the clearing of the sub 2, which is unknown, is refused
  pub verdicts : map (λ (o : Outcome). o.verdict) (outcomes_of table steps)
      ≡ Err Refusal.OutputShort ∷ (Ok tt) ∷ (Ok tt) ∷ (Ok tt) ∷ (Ok tt) ∷ (Ok tt) ∷ Err Refusal.OutputShort ∷ (Ok tt) ∷ (Ok tt)
      ∷ (Ok tt) ∷ Err Refusal.SubUnknown ∷ (Ok tt) ∷ (Ok tt) ∷ []
  pub reported : reported_for table steps 7 ≡ record { changes = pos 55 ∷ negsuc 14 ∷ pos 50 ∷ []; received = 105; surrendered = 105; balance = 0 }
  pub statement : statement_of (holding_after table steps) ≡ joined pieces

pub printed_case : Printed
unfolding all_of some every distinct sum_of each_at_most sum_by weighed weigh_all smallest written buffer_after trees_of residue_of tonnes value change_between letters_of beside letter_names region_names named place_six schedule6 has_columns is_table judged column_number length_of own_column consulted cell_at rate_six share_after digits_in digits append more headed number_in trees_on residues_in one_residue_on residue_on sub_stock area_stock place_from find_area find_sub area_at sub_at with_sub years_carried amounts_within fields_within residue_carried sub_carried area_within carried_within answered placed area_cases open_cases opened add_cases added_area added clear_cases cleared_sub cleared_area cleared plant_cases planted_sub planted_area planted file_cases change_of filed_area return_of filed withdraw_cases withdrawn_area withdrawn applied stepped reported_with reported_from start_text number_text type_text joined texts residue_text residues_text sub_text years_text amounts_text area_text statement_of writable width_to field_of field_by number_before number_at type_before type_at start_at line_at residue_at Reading.sub_line_at items_from subs_from subs_within years_at amounts_at Reading.area_line_within areas_from_within areas_within holding_within acceptable_within read_within result_of holding_from outcomes_from
printed_case = record { verdicts = refl; reported = refl; statement = refl }
