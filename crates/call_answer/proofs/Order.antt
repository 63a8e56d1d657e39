-- The order of a call's parts. A line is refused by a number up to 6 and a table by 6; a statement is refused by 11, and an entry that was read, on any
-- holding and table, by no number below 6. So a refused line decides, then a refused table, and only the statement and the state are weighed together.
use Rattle.std.specs.Prelude.{Ok, Err}
use Rattle.laws.proofs.{ℕ, ◌/◌, ◌%◌, ◌≤◌, ◌≡◌, refl, Bool, true, false, not, List, arith, eqb, leb, ltb, lit≤, length}
use Rattle.text.specs.{split}
use Rattle.refusals.specs.{smaller, Refusal, Verdict, number_of, weighed, weigh_all, smallest}
use Rattle.table.specs.{longest_table, is_table}
use Rattle.table_bytes.specs.{numbers_of, decodable}
use Rattle.line_entry.specs.{Act, Entry, Rule, area_and_year, open_rule, add_rule, clear_rule, plant_rule, file_rule, withdraw_rule, Parsed}
use Rattle.line_column.specs.{column_rule}
use Rattle.line.specs.{body_of, letter_of, no_rule, rule_of, line_rule, conditions, entry_of}
use Rattle.line.proofs.Letters.{of_letters}
use Rattle.line.proofs.Refused.{turned_by}
use Rattle.ranges.specs.{is_area}
use Rattle.schedules.specs.{schedule6}
use Rattle.holding.specs.{Holding}
use Rattle.holding_look.specs.{looked_up}
use Rattle.step_outcome.specs.{area_cases}
use Rattle.step_outcome.proofs.Laws.{answered-verdict}
use Rattle.step_open.specs.{open_cases, opened}
use Rattle.step_add.specs.{add_cases, added}
use Rattle.step_clear.specs.{clear_cases, cleared}
use Rattle.step_plant.specs.{plant_cases, planted}
use Rattle.step_file.specs.{file_cases, filed}
use Rattle.step_withdraw.specs.{withdraw_cases, withdrawn}
use Rattle.step.specs.{acted, applied}
use Rattle.table_extend.specs.{begun, extensible}
use Rattle.table_grow.specs.{line_cells, growable}
use Rattle.table_grow.proofs.Growth.{column_grows}
use Rattle.statement.specs.{acceptable, acceptable_within, read_if, read_of, read_within}
use Rattle.statement_parse.specs.{holding_at}
use Rattle.book_listing.specs.{column_taken, entry_taken, parsed_taken, line_taken}
use Rattle.call_answer.specs.{table_verdict, call_verdict, entry_bytes, call_bytes}
use Rattle.refusals.proofs.Smaller.{From, from_less, smaller-first, smaller-from}
use Rattle.call_answer.proofs.Ranged.{Ranged, EntryRanged, entry_ranged}
use Rattle.call_answer.proofs.Tables.{starts_at, starts_from_lem, weighed-from, answered-from, ends_at, ends_by}

-- ---- the line: at most 6

rules_end : (letter : ℕ) (fs : List (List ℕ)) → ends_at 6 (rule_of letter fs).cases ≡ true
unfolding no_rule column_rule area_and_year open_rule add_rule clear_rule plant_rule file_rule withdraw_rule ends_at
rules_end letter fs = of_letters (λ (x : Rule). ends_at 6 x.cases ≡ true) fs refl refl refl refl refl refl refl refl letter

pub line_six : (line : List ℕ) (r : Refusal) → entry_of line ≡ Err r → number_of r ≤ 6
unfolding entry_of conditions line_rule ends_at
line_six line r e =
    let body = body_of line in
    ends_by 6 (conditions body) r (rules_end (letter_of body) (split body)) (turned_by (smallest (conditions body)) _ r e)

-- ---- the table: 6

pub table_six : (table : List ℕ) (r : Refusal) → table_verdict table ≡ Err r → r ≡ Refusal.TableColumn
unfolding table_verdict decodable smallest weigh_all weighed
table_six table r e = go (not (eqb (length table % 2) 0)) (ltb longest_table (length table / 2)) (not (is_table (numbers_of table))) e
  where
    go : (odd long unkept : Bool)
        → weighed (weighed (weighed (weighed (Ok tt) odd Refusal.TableColumn) long Refusal.TableColumn) long Refusal.OutputShort) unkept Refusal.TableColumn ≡ Err r
        → r ≡ Refusal.TableColumn
    go true long unkept e = cc
    go false true unkept e = cc
    go false false true e = cc
    go false false false e = let z : ◌≡◌ {A = ℕ} 0 1 = cc in absurd (omega arith)

table-from_six : (table : List ℕ) → From 6 (table_verdict table)
unfolding table_verdict decodable starts_at
table-from_six table =
    weighed-from 6 (decodable table longest_table) (not (is_table (numbers_of table))) Refusal.TableColumn (starts_from_lem 6 _ refl) (omega arith)

-- ---- the statement: 11

read_by : (v : Verdict) (holding : Holding) → (read_if v holding).verdict ≡ v
read_by (Ok _) holding = refl
read_by (Err r) holding = refl

pub read-from_eleven : (statement : List ℕ) → From 11 (read_of statement).verdict
unfolding read_within acceptable_within starts_at
read-from_eleven statement =
    rw (read_by (acceptable statement (holding_at statement)) (holding_at statement).holding) (starts_from_lem 11 _ refl)

read-from : (statement : List ℕ) (n : ℕ) → n ≤ 6 → From n (read_of statement).verdict
read-from statement n h = from_less n 11 (read_of statement).verdict (omega arith) (read-from_eleven statement)

-- ---- the state: an entry that was read

growable-from_six : (own : List ℕ) (areas : ℕ) (line : List ℕ) (column : ℕ) → entry_of line ≡ Ok (Entry.Column column) → From 6 (growable own areas line)
unfolding extensible starts_at
growable-from_six own areas line column read =
    rw (column_grows own areas line column read).0
    (weighed-from 6 (extensible (begun own) column (line_cells line) longest_table) (leb 1 areas) Refusal.TableAfterArea (starts_from_lem 6 _ refl) (lit≤ tt))

module _ (own : List ℕ) (holding : Holding) (line : List ℕ) where
  act_from_six : (area : ℕ) (act : Act) → is_area area ≡ true → Ranged act → From 6 (acted own schedule6 (looked_up holding area) act).verdict
  unfolding opened open_cases added add_cases cleared clear_cases planted plant_cases filed file_cases withdrawn withdraw_cases area_cases starts_at
  act_from_six area (Act.Open opening) a r = answered-from 6 _ _ refl (rw (a, r))
  act_from_six area (Act.Add sub land forest year) a r = answered-from 6 _ _ refl (rw (a, r.0, r.1, r.2))
  act_from_six area (Act.Clear sub year) a r = answered-from 6 _ _ refl (rw (a, r.0, r.1))
  act_from_six area (Act.Plant sub forest year) a r = answered-from 6 _ _ refl (rw (a, r.0, r.1, r.2))
  act_from_six area (Act.File last) a r = answered-from 6 _ _ refl (rw (a, r))
  act_from_six area Act.Withdraw a r = answered-from 6 _ _ refl (rw a)

  entry-from_six : (entry : Entry) → entry_of line ≡ Ok entry → EntryRanged entry → From 6 (entry_taken own holding line entry).verdict
  unfolding entry_taken applied
  entry-from_six (Entry.On on) read r = act_from_six on.area on.act r.0 r.1
  entry-from_six (Entry.Column column) read r =
      rw (answered-verdict (growable own holding.count line) (column_taken holding.count) refl) (growable-from_six own holding.count line column read)

-- ---- the call

first_of_four : (r : Refusal) (table statement : Verdict) → From (number_of r) table → From (number_of r) statement
    → smaller (Err r) (smaller table (smaller statement (Err r))) ≡ Err r
first_of_four r table statement p q =
    let n = number_of r in
    smaller-first r (smaller table (smaller statement (Err r)))
    (smaller-from n table (smaller statement (Err r)) p (smaller-from n statement (Err r) q (omega arith)))

module _ (statement table line : List ℕ) where
  pub line_decides : (r : Refusal) → entry_of line ≡ Err r → call_verdict statement table line ≡ Err r
  unfolding call_verdict line_taken parsed_taken
  line_decides r e =
      let n = number_of r in
      let few = line_six line r e in
      rw e
      (first_of_four r (table_verdict table) (read_of statement).verdict
      (from_less n 6 (table_verdict table) few (table-from_six table))
      (read-from statement n few))

  module _ (entry : Entry) (read : entry_of line ≡ Ok entry) where
    pub table_decides : (r : Refusal) → table_verdict table ≡ Err r → call_verdict statement table line ≡ Err r
    unfolding call_verdict line_taken parsed_taken
    table_decides r e =
        let six = table_six table r e in
        let holding = (read_of statement).holding in
        let state = (entry_taken (numbers_of table) holding line entry).verdict in
        rw (read, e, six)
        (smaller-first Refusal.TableColumn (smaller (read_of statement).verdict state)
        (smaller-from 6 (read_of statement).verdict state (read-from statement 6 (omega arith))
        (entry-from_six (numbers_of table) holding line entry read (entry_ranged line entry read))))

    pub entry-weighed : call_verdict statement table line
        ≡ smaller (table_verdict table) (smaller (read_of statement).verdict (entry_taken (numbers_of table) (read_of statement).holding line entry).verdict)
    unfolding call_verdict line_taken parsed_taken
    entry-weighed = rw read

    pub entry_writes : call_bytes statement table line ≡ entry_bytes (numbers_of table) (read_of statement).holding line entry
    unfolding call_bytes
    entry_writes = rw read
