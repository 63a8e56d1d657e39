-- Lines of which one is refused, as a book and through the call, with room and without, and the printed listing of document 01: what is sent and what is
-- reported, as antt computes them.
use Rattle.laws.proofs.{ℕ, ◌≡◌, refl, List, [], ◌∷◌, ◌++◌, replicate}
use Rattle.laws.specs.{some, every, distinct, keep, sum_by, all_of}
use Rattle.refusals.specs.{buffer_after, weighed, weigh_all, smallest}
use Rattle.units.specs.{tonnes, change_between}
use Rattle.text.specs.{digits_in, digits, width_to, holds, extend, split}
use Rattle.text_number.specs.{append, more, headed, number_in}
use Rattle.line_entry.specs.{Act, AreaAct, on, letter_in, parsed, area_and_year, open_rule, file_rule, withdraw_rule}
use Rattle.line.specs.{body_of, letter_of, no_rule, rule_of, line_rule, conditions, entry_of}
use Rattle.table.specs.{is_table}
use Rattle.table_bytes.specs.{numbers_of, decodable}
use Rattle.holding.specs.{place_from, find_area}
use Rattle.holding_look.specs.{area_at}
use Rattle.stocks.specs.{area_stock}
use Rattle.statement_carried.specs.{years_carried, amounts_within, fields_within, area_within, carried_within}
use Rattle.step_outcome.specs.{answered, placed, area_cases}
use Rattle.step_open.specs.{open_cases, opened}
use Rattle.step_file.specs.{file_cases, change_of, filed_area, return_of, filed}
use Rattle.step_withdraw.specs.{withdraw_cases, withdrawn}
use Rattle.step.specs.{applied}
use Rattle.statement_format.specs.{start_text, number_text, joined, texts, years_text, amounts_text, area_text, statement_of}
use Rattle.statement_cursor.specs.{field_of, field_by, number_before, number_at, start_at, line_at}
use Rattle.statement_parse.specs.{items_from, subs_from, subs_within, years_at, amounts_at, area_line_within, areas_from_within, areas_within, holding_within}
use Rattle.statement.specs.{acceptable_within, read_within}
use Rattle.book_print.specs.{change_text, report_text, pair_text, refusal_text, foot_text, end_text}
use Rattle.book_foot.specs.{all_carried, summable, foot_of}
use Rattle.book_listing.specs.{lines_of, entry_taken, parsed_taken, line_taken, table_after, start, next, printed_for, printed, run_from, printed_from, list_from, lines_run, listing_of}
use Rattle.call_output.specs.{with_room}
use Rattle.call_answer.specs.{table_verdict, call_verdict, entry_bytes, call_bytes, call_weighed, call_answer, call_output}
use Rattle.call_book.specs.{begin, is_column_line, before_report, after_call, shown_after}
use Rattle.theorem_running.specs.{sent_from, reports_from, acts_from, ended, reports_in}

-- A,7,2010; R,7,2010; W,8, of which the last is refused
abbrev lines : List (List ℕ)
lines = (65 ∷ 44 ∷ 55 ∷ 44 ∷ 50 ∷ 48 ∷ 49 ∷ 48 ∷ []) ∷ (82 ∷ 44 ∷ 55 ∷ 44 ∷ 50 ∷ 48 ∷ 49 ∷ 48 ∷ []) ∷ (87 ∷ 44 ∷ 56 ∷ []) ∷ []

abbrev book : List ℕ
book = texts ended lines

abbrev acts : List AreaAct
acts = on 7 (Act.Open 2010) ∷ on 7 (Act.File 2010) ∷ []

-- R,7,2010,2010,0,0,0,0
abbrev report : List ℕ
report = 82 ∷ 44 ∷ 55 ∷ 44 ∷ 50 ∷ 48 ∷ 49 ∷ 48 ∷ 44 ∷ 50 ∷ 48 ∷ 49 ∷ 48 ∷ 44 ∷ 48 ∷ 44 ∷ 48 ∷ 44 ∷ 48 ∷ 44 ∷ 48 ∷ 10 ∷ []

-- an output of so many bytes
abbrev room : ℕ → List ℕ
room bytes = replicate bytes 0

-- the lines R that document 01 prints: R,7,2010,2010,55,55,0,55; R,7,2011,2012,-15,0,15,40; R,7,2013,2013,50,50,0,90
abbrev returns : List (List ℕ)
returns =
    (82 ∷ 44 ∷ 55 ∷ 44 ∷ 50 ∷ 48 ∷ 49 ∷ 48 ∷ 44 ∷ 50 ∷ 48 ∷ 49 ∷ 48 ∷ 44 ∷ 53 ∷ 53 ∷ 44 ∷ 53 ∷ 53 ∷ 44 ∷ 48 ∷ 44 ∷ 53 ∷ 53 ∷ [])
    ∷ (82 ∷ 44 ∷ 55 ∷ 44 ∷ 50 ∷ 48 ∷ 49 ∷ 49 ∷ 44 ∷ 50 ∷ 48 ∷ 49 ∷ 50 ∷ 44 ∷ 45 ∷ 49 ∷ 53 ∷ 44 ∷ 48 ∷ 44 ∷ 49 ∷ 53 ∷ 44 ∷ 52 ∷ 48 ∷ [])
    ∷ (82 ∷ 44 ∷ 55 ∷ 44 ∷ 50 ∷ 48 ∷ 49 ∷ 51 ∷ 44 ∷ 50 ∷ 48 ∷ 49 ∷ 51 ∷ 44 ∷ 53 ∷ 48 ∷ 44 ∷ 53 ∷ 48 ∷ 44 ∷ 48 ∷ 44 ∷ 57 ∷ 48 ∷ [])
    ∷ []

-- and the others: X,10,28; W,7,90; F,105,105,0; E,10,1
abbrev refusal : List ℕ
refusal = 88 ∷ 44 ∷ 49 ∷ 48 ∷ 44 ∷ 50 ∷ 56 ∷ []

abbrev withdrawal : List ℕ
withdrawal = 87 ∷ 44 ∷ 55 ∷ 44 ∷ 57 ∷ 48 ∷ []

abbrev foot : List ℕ
foot = 70 ∷ 44 ∷ 49 ∷ 48 ∷ 53 ∷ 44 ∷ 49 ∷ 48 ∷ 53 ∷ 44 ∷ 48 ∷ []

abbrev closing : List ℕ
closing = 69 ∷ 44 ∷ 49 ∷ 48 ∷ 44 ∷ 49 ∷ []

pub record Examples : Type 0 where
  pub listing_reports : reports_in (texts ended (returns ++ (refusal ∷ withdrawal ∷ foot ∷ closing ∷ []))) ≡ texts ended (returns ++ (withdrawal ∷ []))
  pub book_acts : acts_from start (lines_run book) ≡ acts
  pub book_reports : reports_in (listing_of book) ≡ report
  pub calls_sent : sent_from (begin [] (room 64)) lines ≡ acts
  pub calls_reports : reports_from (begin [] (room 64)) lines ≡ report
  pub short_output : sent_from (begin [] (room 30)) lines ≡ []

pub examples_hold : Examples
unfolding some every distinct keep sum_by all_of buffer_after weighed weigh_all smallest tonnes change_between digits_in digits width_to holds extend split append more headed number_in letter_in parsed area_and_year open_rule file_rule withdraw_rule body_of letter_of no_rule rule_of line_rule conditions entry_of is_table numbers_of decodable place_from find_area area_at area_stock years_carried amounts_within fields_within area_within carried_within answered placed area_cases open_cases opened file_cases change_of filed_area return_of filed withdraw_cases withdrawn applied start_text number_text joined texts years_text amounts_text area_text statement_of field_of field_by number_before number_at start_at line_at items_from subs_from subs_within years_at amounts_at area_line_within areas_from_within areas_within holding_within acceptable_within read_within change_text report_text pair_text refusal_text foot_text end_text all_carried summable foot_of lines_of entry_taken parsed_taken line_taken table_after start next printed_for printed run_from printed_from list_from listing_of table_verdict call_verdict entry_bytes call_bytes with_room call_weighed call_answer call_output begin is_column_line before_report after_call shown_after sent_from reports_from lines_run acts_from reports_in
examples_hold =
    record { listing_reports = refl; book_acts = refl; book_reports = refl; calls_sent = refl; calls_reports = refl; short_output = refl }
