-- A book with a refused S line, an area that is withdrawn, and an area opened behind its S entries: its rows, as antt computes them. Onto its A entries they are
-- taken; onto the holding of the whole book the first is turned down, since its area is withdrawn.
use Rattle.std.specs.Prelude.{Ok, Err}
use Rattle.laws.proofs.{ℕ, ◌≡◌, refl, List, [], ◌∷◌}
use Rattle.laws.specs.{every, keep, sum_by, all_of}
use Rattle.refusals.specs.{Refusal, Verdict, weighed, weigh_all, smallest}
use Rattle.units.specs.{tenths_of, trees_of}
use Rattle.schedules.specs.{place_six}
use Rattle.text.specs.{width_to, holds, extend, split, join_after, join}
use Rattle.text_number.specs.{append, more, headed, number_in}
use Rattle.text_decimal.specs.{with_decimals, decimal_in, hectares_in}
use Rattle.forest.specs.{beside, letter_names, named}
use Rattle.line_entry.specs.{letter_in, parsed, area_and_year, open_rule, add_rule, withdraw_rule}
use Rattle.line.specs.{body_of, letter_of, rule_of, line_rule, conditions, entry_of}
use Rattle.table_parts.specs.{length_of}
use Rattle.table.specs.{is_table, judged}
use Rattle.holding.specs.{place_from, find_area, find_sub, residues_in}
use Rattle.holding_look.specs.{area_at}
use Rattle.rates.specs.{consulted, cell_at, rate_six}
use Rattle.stocks.specs.{trees_on, residue_on, sub_stock}
use Rattle.statement_carried.specs.{years_carried, amounts_within, fields_within}
use Rattle.statement_format.specs.{texts}
use Rattle.step_outcome.specs.{answered, placed, area_cases}
use Rattle.step_open.specs.{open_cases, opened}
use Rattle.step_add.specs.{add_cases, added_area, added}
use Rattle.step_withdraw.specs.{withdraw_cases, withdrawn_area, withdrawn}
use Rattle.step.specs.{applied, stepped, holding_from}
use Rattle.book_listing.specs.{lines_of, entry_taken, parsed_taken, line_taken, table_after, start, next, run_from, lines_run}
use Rattle.book_export.specs.{exported_row, exported_from, export_rows, export_of}
use Rattle.sheet_read.specs.{Row, after_field, plain_at, begins_at, turned, reading_after, sound, in_front, field_in_front, marked, rows_from, rows_of}
use Rattle.sheet_judge.specs.{regular, sheet_verdict, same_by}
use Rattle.sheet_write.specs.{doubled, quoted, row_text, sheet_text, row_of}
use Rattle.sheet_import.specs.{sheet_rows, import_rows, import_onto}
use Rattle.theorem_running.specs.{ended, acts_from}
use Rattle.theorem_sheets.specs.{imported}

-- A,7,2010; S,7,2,5.25,B,0; S,7,2,9,B,0, which is refused; W,7; A,3,2012; S,3,1,2,B,0
abbrev lines : List (List ℕ)
lines =
    (65 ∷ 44 ∷ 55 ∷ 44 ∷ 50 ∷ 48 ∷ 49 ∷ 48 ∷ [])
    ∷ (83 ∷ 44 ∷ 55 ∷ 44 ∷ 50 ∷ 44 ∷ 53 ∷ 46 ∷ 50 ∷ 53 ∷ 44 ∷ 66 ∷ 44 ∷ 48 ∷ [])
    ∷ (83 ∷ 44 ∷ 55 ∷ 44 ∷ 50 ∷ 44 ∷ 57 ∷ 44 ∷ 66 ∷ 44 ∷ 48 ∷ [])
    ∷ (87 ∷ 44 ∷ 55 ∷ [])
    ∷ (65 ∷ 44 ∷ 51 ∷ 44 ∷ 50 ∷ 48 ∷ 49 ∷ 50 ∷ [])
    ∷ (83 ∷ 44 ∷ 51 ∷ 44 ∷ 49 ∷ 44 ∷ 50 ∷ 44 ∷ 66 ∷ 44 ∷ 48 ∷ [])
    ∷ []

abbrev book : List ℕ
book = texts ended lines

abbrev rows : List Row
rows =
    ((55 ∷ []) ∷ (50 ∷ []) ∷ (53 ∷ 46 ∷ 50 ∷ 53 ∷ []) ∷ (66 ∷ []) ∷ (48 ∷ []) ∷ [])
    ∷ ((51 ∷ []) ∷ (49 ∷ []) ∷ (50 ∷ []) ∷ (66 ∷ []) ∷ (48 ∷ []) ∷ [])
    ∷ []

pub record Examples : Type 0 where
  pub rows_shown : sheet_rows (export_of book) ≡ rows
  pub onto_openings : (imported book).verdict ≡ Ok tt
  pub onto_whole : (import_onto [] (run_from start (lines_run book)).holding (export_of book)).verdict ≡ Err Refusal.AreaWithdrawn

pub examples_hold : Examples
unfolding every keep sum_by all_of weighed weigh_all smallest tenths_of trees_of place_six length_of consulted cell_at rate_six width_to holds extend split join_after join append more headed number_in with_decimals decimal_in hectares_in beside letter_names named letter_in parsed area_and_year open_rule add_rule withdraw_rule body_of letter_of rule_of line_rule conditions entry_of is_table judged place_from find_area find_sub residues_in area_at trees_on residue_on sub_stock years_carried amounts_within fields_within texts answered placed area_cases open_cases opened add_cases added_area added withdraw_cases withdrawn_area withdrawn applied stepped holding_from lines_of entry_taken parsed_taken line_taken table_after start next run_from lines_run exported_row exported_from export_rows export_of after_field plain_at begins_at turned reading_after sound in_front field_in_front marked rows_from rows_of same_by regular sheet_verdict doubled quoted row_text sheet_text row_of import_rows import_onto acts_from
examples_hold = record { rows_shown = refl; onto_openings = refl; onto_whole = refl }
