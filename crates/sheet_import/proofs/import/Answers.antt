-- `sheet_import::import` meets its contract. Four loops: the areas are read and judged, the rows taken, and the new statement measured and written.
use Rattle.std.specs.Prelude.{Ok, Err}
use Rattle.laws.proofs.{ℕ, ◌+◌, ◌-◌, ◌<◌, ◌≡◌, refl, sym, ap, ◌∙◌, List, arith, length, drop}
use Rattle.laws.proofs.Standing.{map-set}
use Rattle.refusals.specs.{Refusal}
use Rattle.std.proofs.lemmas.Result.{err_from_is_err_and}
use Rattle.holding.specs.{Area, Holding, most_areas, numbers_in}
use Rattle.holding_look.specs.{Looked, area_at}
use Rattle.holding_look.proofs.Laws.{area_here, area-out, area_nowhere}
use Rattle.step_outcome.specs.{Outcome, placed}
use Rattle.step_outcome.proofs.Laws.{placed_here, placed-out, placed_nowhere, placed-long}
use Rattle.statement_cursor.specs.{number_at, start_at}
use Rattle.statement_format.specs.{texts, area_text, area_width}
use Rattle.statement_field.proofs.Puts.{put_none}
use Rattle.statement_field.proofs.Texts.{put_next}
use Rattle.statement_write.proofs.Writable.{refused, accepted}
use Rattle.statement.specs.{read_of}
use Rattle.book_listing.specs.{line_taken}
use Rattle.call_output.proofs.Given.{gives_refused, gives_written, gives_as}
use Rattle.sheet_read.specs.{rows_of, joined_from, Reading}
use Rattle.sheet_read.proofs.Joined.{width_at, width_some}
use Rattle.sheet_import.specs.{Imported, import_rows, import_onto, onto_verdict, line_at}
use Rattle.sheet_import.proofs.Rows.{row_outcome, read-refused, read_column, outcome_is, row_refused, row_added, rows_over}
use Rattle.sheet_import.proofs.Sheets.{sheet_refused, sheet_taken}
use Rattle.sheet_import.proofs.Standing.{standing}
use Rattle.sheet_import.proofs.Reading as reading
use Rattle.sheet_import.proofs.Onto.{onto_turned, onto_verdict_lem, onto_bytes_lem, all_put}
use Rattle.sheet_import.proofs.import.Goals as goal
use Rattle.sheet_import.proofs.import.Goals.{After-number-head, Else-not-next-statement, Joined-found, After-apply_to-outcome, After-loop-at, in-Some+then-k-lt-MOST_AREAS, in-Some+else-k-lt-MOST_AREAS, in_default}

-- ---- the areas are read and judged

-- how many areas the statement says it has
head_is : (n : After-number-head) → n.number-head.result ≡ number_at n.args.statement.now (start_at n.args.statement.now 0 72) 10 most_areas
head_is n = n.number-head.ensures.value ∙ ap (λ p. number_at n.args.statement.now p 10 most_areas) n.start-start.ensures

pub loop-i-init : goal.loop-i-init
loop-i-init c = reading.reading_start c.args.statement.now _ _ _ (simp c.empty_area-areas.ensures)

pub loop-i-preserved : goal.loop-i-preserved
loop-i-preserved c =
    reading.reading_more c.args.statement.now _ _ _ _ _ _ _ c.loop-i.invariant c.loop-i-test.true (omega (arith, c.number-head.ensures.value_le_most)) _
    c.read_area-read.ensures _ c.area-kept.ensures

-- the statement is refused, or read
pub returns-then-not-next-statement : goal.returns-then-not-next-statement
returns-then-not-next-statement c =
    let a = c.args in
    gives_refused _ _ _ _
    (onto_turned a.own.now a.statement.now a.sheet.now _
    (reading.read-turned a.statement.now _ (head_is (goal.at.returns-then-not-next-statement c).After-number-head) _ _ _ _ _ c.loop-i.invariant c.loop-i-test.false
    (omega (arith, c.number-head.ensures.value_le_most)) _ c.numbers-apart.ensures c.if-not-next-statement.true))

reads : (e : Else-not-next-statement) → read_of e.args.statement.now ≡ record { verdict = (Ok tt); holding = standing e.number-head.result.value e.loop-i.areas }
reads e =
    let head : e.number-head.result ≡ number_at e.args.statement.now (start_at e.args.statement.now 0 72) 10 most_areas =
    e.number-head.ensures.value ∙ ap (λ p. number_at e.args.statement.now p 10 most_areas) e.start-start.ensures in
    reading.read_clear e.args.statement.now _ head _ _ _ _ _ e.loop-i.invariant e.loop-i-test.false
    (omega (arith, e.number-head.ensures.value_le_most)) _ e.numbers-apart.ensures e.if-not-next-statement.false

pub returns-in_err-judge : goal.returns-in_err-judge
returns-in_err-judge c =
    let a = c.args in
    let told = err_from_is_err_and c.from_residual.result c.from_residual.ensures.1 in
    rw (told.1, told.2)
    (gives_refused _ _ _ _
    (onto_verdict_lem a.own.now a.statement.now a.sheet.now _ (reads (goal.at.returns-in_err-judge c).Else-not-next-statement) _
    (sheet_refused a.own.now _ a.sheet.now _ c.judge.ensures _ c.in_err-judge.was)))

-- ---- the rows are taken

-- the area looked up
looks : (m : Joined-found) → m.match-found.looked ≡ record {
  number = m.find-names.result.number;
  count = m.loop-at.count;
  found = m.find-names.result.found;
  area = area_at (standing m.loop-at.count m.loop-at.areas) m.find-names.result.found;
}
looks m =
    let with : Area → Looked = λ a. record { number = m.find-names.result.number; count = m.loop-at.count; found = m.find-names.result.found; area = a } in
    elim m.match-found.branch [
      | in-Some+then-k-lt-MOST_AREAS w ↦
          w.looked-is ∙ ap with (area_here _ _ _ _ w.in-Some.is (omega (arith, w.if-k-lt-MOST_AREAS.true, m.loop-at.invariant.0)))
      | in-Some+else-k-lt-MOST_AREAS w ↦
          w.looked-is
          ∙ ap with (m.empty_area-looked.ensures ∙ area-out _ _ _ w.in-Some.is (omega (arith, w.if-k-lt-MOST_AREAS.false, m.loop-at.invariant.0)))
      | in_default w ↦ w.looked-is ∙ ap with (m.empty_area-looked.ensures ∙ area_nowhere _ _ w.in_default.is)
    ]

-- what a row comes to, by what it was read as and the area looked up
comes_by : (m : Joined-found) (outcome : Outcome)
    → outcome ≡ row_outcome m.args.own.now m.schedule_six-default.result m.match-found.looked m.read_row-row.result.parsed
    → outcome ≡ line_taken m.args.own.now (standing m.loop-at.count m.loop-at.areas) (line_at m.args.sheet.now m.loop-at.at)
comes_by m outcome o =
    outcome_is m.args.own.now (standing m.loop-at.count m.loop-at.areas) m.loop-at.numbers m.loop-at.invariant.1
    (joined_from Reading.RowStart (drop m.loop-at.at m.args.sheet.now)) _ _ _ _ _ _
    (o ∙ ap (λ (x : Looked). row_outcome m.args.own.now m.schedule_six-default.result x m.read_row-row.result.parsed) (looks m))
    m.read_row-row.ensures.parsed m.find-names.ensures refl refl m.schedule_six-default.ensures

-- what the rows from the start come to is what the sheet does
comes-to : (m : Joined-found) (imported : Imported)
    → imported
    ≡ import_rows m.args.own.now (standing m.number-head.result.value m.loop-i.areas) (standing m.number-head.result.value m.loop-i.areas)
    (rows_of (drop m.read_row-heading.result.next m.args.sheet.now))
    → imported ≡ import_onto m.args.own.now (standing m.number-head.result.value m.loop-i.areas) m.args.sheet.now
comes-to m imported i =
    sheet_taken m.args.own.now (standing m.number-head.result.value m.loop-i.areas) m.args.sheet.now _ m.judge.ensures m.in_ok-judge.was _ imported
    m.read_row-heading.ensures.next i

-- a row that is turned down turns the sheet down
turned_down : (m : Joined-found) (outcome : Outcome) (refusal : Refusal)
    → read_of m.args.statement.now ≡ record { verdict = (Ok tt); holding = standing m.number-head.result.value m.loop-i.areas }
    → outcome ≡ line_taken m.args.own.now (standing m.loop-at.count m.loop-at.areas) (line_at m.args.sheet.now m.loop-at.at)
    → outcome.verdict ≡ Err refusal
    → onto_verdict m.args.own.now m.args.statement.now m.args.sheet.now ≡ Err refusal
turned_down m outcome refusal read o v =
    let a = m.args in
    let rows =
    row_refused a.own.now (standing m.number-head.result.value m.loop-i.areas) (standing m.loop-at.count m.loop-at.areas) a.sheet.now m.loop-at.at
    m.loop-at-test.true outcome o refusal v
    ∙ m.loop-at.invariant.2 in
    onto_verdict_lem a.own.now a.statement.now a.sheet.now (standing m.number-head.result.value m.loop-i.areas) read _ (comes-to m _ rows)

pub returns-in_err-on : goal.returns-in_err-on
returns-in_err-on c =
    let m = (goal.at.returns-in_err-on c).Joined-found in
    let told = err_from_is_err_and c.from_residual-in_err-on.result c.from_residual-in_err-on.ensures.1 in
    rw (told.1, told.2)
    (gives_refused _ _ _ _
    (turned_down m _ _ (reads (goal.at.returns-in_err-on c).Else-not-next-statement) (comes_by m _ refl) (read-refused _ _ _ _ _ c.in_err-on.was)))

pub returns-in_default-2 : goal.returns-in_default-2
returns-in_default-2 c =
    let m = (goal.at.returns-in_default-2 c).Joined-found in
    let read = c.in_ok-on.was ∙ ap Ok c.in_default-2.is in
    gives_refused _ _ _ _
    (turned_down m _ _ (reads (goal.at.returns-in_default-2 c).Else-not-next-statement) (comes_by m _ refl) (read_column _ _ _ _ _ read))

pub returns-in_err-outcome : goal.returns-in_err-outcome
returns-in_err-outcome c =
    let m = (goal.at.returns-in_err-outcome c).Joined-found in
    let outcome = comes_by m _ (c.apply_to-outcome.ensures ∙ sym (ap (row_outcome _ _ _) (c.in_ok-on.was ∙ ap Ok c.in-On.is))) in
    let told = err_from_is_err_and c.from_residual-in_err-outcome.result c.from_residual-in_err-outcome.ensures.1 in
    rw (told.1, told.2)
    (gives_refused _ _ _ _ (turned_down m _ _ (reads (goal.at.returns-in_err-outcome c).Else-not-next-statement) outcome c.in_err-outcome.was))

-- a row that is accepted: fewer bytes are left
less : (t : After-apply_to-outcome) → length t.args.sheet.now - t.read_row-row.result.next < length t.args.sheet.now - t.loop-at.at
less t =
    omega (arith, t.read_row-row.ensures.next, t.loop-at-test.true, width_some t.args.sheet.now t.loop-at.at t.loop-at-test.true)

-- the rows behind it, on the holding that it leaves
again : (m : Joined-found) (outcome : Outcome)
    → outcome ≡ line_taken m.args.own.now (standing m.loop-at.count m.loop-at.areas) (line_at m.args.sheet.now m.loop-at.at)
    → outcome.verdict ≡ Ok tt
    → (holding : Holding) (numbers : List ℕ) → holding ≡ placed (standing m.loop-at.count m.loop-at.areas) outcome → numbers ≡ numbers_in holding.areas
    → (length holding.areas ≡ most_areas) × (numbers ≡ numbers_in holding.areas)
    × (import_rows m.args.own.now (standing m.number-head.result.value m.loop-i.areas) holding (rows_of (drop m.read_row-row.result.next m.args.sheet.now))
    ≡ import_rows m.args.own.now (standing m.number-head.result.value m.loop-i.areas) (standing m.number-head.result.value m.loop-i.areas)
    (rows_of (drop m.read_row-heading.result.next m.args.sheet.now)))
again m outcome comes accepts holding numbers h n =
    let own = m.args.own.now in
    let sheet = m.args.sheet.now in (
      ap (λ (x : Holding). length x.areas) h ∙ placed-long _ _ ∙ m.loop-at.invariant.0,
      n,
      ap (λ (k : ℕ). import_rows own (standing m.number-head.result.value m.loop-i.areas) holding (rows_of (drop k sheet))) m.read_row-row.ensures.next
          ∙ ap (λ (x : Holding). import_rows own (standing m.number-head.result.value m.loop-i.areas) x (rows_of (drop (m.loop-at.at + width_at sheet m.loop-at.at) sheet))) h
          ∙ row_added own (standing m.number-head.result.value m.loop-i.areas) (standing m.loop-at.count m.loop-at.areas) sheet m.loop-at.at m.loop-at-test.true outcome comes accepts
          ∙ m.loop-at.invariant.2,
    )

pub loop-at-smaller-then-k-lt-MOST_AREAS-2 : goal.loop-at-smaller-then-k-lt-MOST_AREAS-2
loop-at-smaller-then-k-lt-MOST_AREAS-2 c = less (goal.at.loop-at-smaller-then-k-lt-MOST_AREAS-2 c).After-apply_to-outcome

pub loop-at-preserved-then-k-lt-MOST_AREAS-2 : goal.loop-at-preserved-then-k-lt-MOST_AREAS-2
loop-at-preserved-then-k-lt-MOST_AREAS-2 c =
    let m = (goal.at.loop-at-preserved-then-k-lt-MOST_AREAS-2 c).Joined-found in
    let comes = comes_by m _ (c.apply_to-outcome.ensures ∙ sym (ap (row_outcome _ _ _) (c.in_ok-on.was ∙ ap Ok c.in-On.is))) in
    again m _ comes c.in_ok-outcome.was _ _ (placed_here _ _ _ c.in-Some-place.is) (simp (map-set, c.loop-at.invariant.1))

pub loop-at-smaller-else-k-lt-MOST_AREAS-2 : goal.loop-at-smaller-else-k-lt-MOST_AREAS-2
loop-at-smaller-else-k-lt-MOST_AREAS-2 c = less (goal.at.loop-at-smaller-else-k-lt-MOST_AREAS-2 c).After-apply_to-outcome

pub loop-at-preserved-else-k-lt-MOST_AREAS-2 : goal.loop-at-preserved-else-k-lt-MOST_AREAS-2
loop-at-preserved-else-k-lt-MOST_AREAS-2 c =
    let m = (goal.at.loop-at-preserved-else-k-lt-MOST_AREAS-2 c).Joined-found in
    let comes = comes_by m _ (c.apply_to-outcome.ensures ∙ sym (ap (row_outcome _ _ _) (c.in_ok-on.was ∙ ap Ok c.in-On.is))) in
    again m _ comes c.in_ok-outcome.was _ _
    (placed-out _ _ _ c.in-Some-place.is (omega (arith, c.if-k-lt-MOST_AREAS-2.false, c.loop-at.invariant.0))) c.loop-at.invariant.1

pub loop-at-smaller : goal.loop-at-smaller
loop-at-smaller c = less (goal.at.loop-at-smaller c).After-apply_to-outcome

pub loop-at-preserved : goal.loop-at-preserved
loop-at-preserved c =
    let m = (goal.at.loop-at-preserved c).Joined-found in
    let comes = comes_by m _ (c.apply_to-outcome.ensures ∙ sym (ap (row_outcome _ _ _) (c.in_ok-on.was ∙ ap Ok c.in-On.is))) in
    again m _ comes c.in_ok-outcome.was _ _ (placed_nowhere _ _ c.in_default-place.is) c.loop-at.invariant.1

-- ---- the new statement is measured and written

-- all rows are taken
taken : (l : After-loop-at) → record { verdict = (Ok tt); holding = standing l.loop-at.count l.loop-at.areas }
    ≡ import_onto l.args.own.now (standing l.number-head.result.value l.loop-i.areas) l.args.sheet.now
taken l =
    let a = l.args in
    let rows =
    rows_over a.own.now (standing l.number-head.result.value l.loop-i.areas) (standing l.loop-at.count l.loop-at.areas) a.sheet.now l.loop-at.at l.loop-at-test.false
    ∙ l.loop-at.invariant.2 in
    sheet_taken a.own.now (standing l.number-head.result.value l.loop-i.areas) a.sheet.now _ l.judge.ensures l.in_ok-judge.was _ _
    l.read_row-heading.ensures.next rows

pub loop-j-init : goal.loop-j-init
unfolding texts
loop-j-init c = (omega arith, put_none _ _ (omega arith) (omega arith))

pub loop-j-preserved : goal.loop-j-preserved
loop-j-preserved c =
    let stands : (c.loop-j.j < most_areas) × (c.loop-j.j < c.loop-at.count) = omega (arith, c.min-standing.ensures) in (
      omega (arith, stands.0),
      put_next area_text _ _ c.loop-j.j area_width c.loop-j.invariant.1 _ stands.1 (omega (arith, stands.0, c.loop-at.invariant.0)) c.put_area-need.ensures,
    )

pub returns-then-out-need : goal.returns-then-out-need
returns-then-out-need c =
    let a = c.args in
    let all =
    all_put (standing c.loop-at.count c.loop-at.areas) c.loop-at.invariant.0 c.put_first-need.ensures c.loop-j.invariant.1 c.loop-j.invariant.0 (omega (arith, c.min-standing.ensures)) in
    let imported = taken (goal.at.returns-then-out-need c).After-loop-at in
    let read = reads (goal.at.returns-then-out-need c).Else-not-next-statement in
    gives_as (sym (onto_verdict_lem a.own.now a.statement.now a.sheet.now (standing c.number-head.result.value c.loop-i.areas) read _ imported))
    (onto_bytes_lem a.own.now a.statement.now a.sheet.now (standing c.number-head.result.value c.loop-i.areas) read _ imported)
    (gives_written (Ok tt) _ _ _ _ refl (refused _ _ all.wrote (omega (arith, all.few)) _ c.if-out-need.true))

pub loop-k-init : goal.loop-k-init
unfolding texts
loop-k-init c = (omega arith, put_none _ _ (omega arith) (omega arith))

pub loop-k-preserved : goal.loop-k-preserved
loop-k-preserved c =
    let stands : (c.loop-k.k < most_areas) × (c.loop-k.k < c.loop-at.count) = omega (arith, c.min-standing.ensures) in (
      omega (arith, stands.0),
      put_next area_text _ _ c.loop-k.k area_width c.loop-k.invariant.1 _ stands.1 (omega (arith, stands.0, c.loop-at.invariant.0)) c.put_area-end.ensures,
    )

pub returns : goal.returns
returns c =
    let a = c.args in
    let long = c.loop-at.invariant.0 in
    let all =
    all_put (standing c.loop-at.count c.loop-at.areas) long c.put_first-need.ensures c.loop-j.invariant.1 c.loop-j.invariant.0 (omega (arith, c.min-standing.ensures)) in
    let put =
    all_put (standing c.loop-at.count c.loop-at.areas) long c.put_first-end.ensures c.loop-k.invariant.1 c.loop-k.invariant.0 (omega (arith, c.min-standing.ensures)) in
    let imported = taken (goal.at.returns c).After-loop-at in
    let read = reads (goal.at.returns c).Else-not-next-statement in
    gives_as (sym (onto_verdict_lem a.own.now a.statement.now a.sheet.now (standing c.number-head.result.value c.loop-i.areas) read _ imported))
    (onto_bytes_lem a.own.now a.statement.now a.sheet.now (standing c.number-head.result.value c.loop-i.areas) read _ imported)
    (gives_written (Ok tt) _ _ _ _ refl (accepted _ _ all.wrote (omega (arith, all.few)) _ _ _ c.if-out-need.false put.wrote))
