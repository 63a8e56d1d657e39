-- `book_run::put_lines` meets its contract: a turn of the loop is a turn of the fold.
use Rattle.laws.proofs.{◌-◌, ◌≤◌, ◌≡◌, refl, sym, ap, ◌∙◌, ⊎_elim, arith, rules, length, take, drop}
use Rattle.laws.proofs.Standing.{as_long}
use Rattle.text.specs.{greatest, line_end}
use Rattle.text.proofs.Widths.{end_inside}
use Rattle.text.proofs.Writes.{wrote_none, wrote_then, wrote_as, wrote-length}
use Rattle.holding.specs.{Holding, most_areas}
use Rattle.holding_look.specs.{area_at}
use Rattle.holding_look.proofs.Laws.{area_here, area-out, area_nowhere}
use Rattle.step_outcome.proofs.Laws.{placed-long}
use Rattle.book_listing.proofs.Folding.{lines_taken, run_line, left_line, run_none}
use Rattle.book_reached.proofs.Bounds.{bounds, may}
use Rattle.book_run.specs.{Part, RunOf}
use Rattle.book_run.proofs.Following.{turn_prints, turn_runs}
use Rattle.book_run.proofs.Runs.{carried, goes_on, stopped, printed_line, printed_none, runs}
use Rattle.book_run.proofs.put_lines.Goals as goal
use Rattle.book_run.proofs.put_lines.Goals.{in-Some+then-k-lt-MOST_AREAS, in-Some+else-k-lt-MOST_AREAS, in_default}

pub loop-i-init : goal.loop-i-init
loop-i-init c =
    let many : length c.args.reached.holding.areas ≡ most_areas = search (rules, as_long) in
    record {
      bounds = bounds _ _ _ _ _ (sym c.may_run.ensures ∙ c.if-not-may_run.false);
      table = search rules;
      areas = many;
      long = refl;
      prints = λ o p w. w;
      runs = refl;
      leaves = refl;
      numbers = c.numbers_of-numbers.ensures;
      place = omega arith;
      short = omega arith;
      on = omega arith;
    }

pub slice_bounds-parse-end : goal.slice_bounds-parse-end
slice_bounds-parse-end c =
    let l = c.loop-i in
    let going = goes_on c.args.book.now l.i l.left c.loop-i-test.true in
    let within = end_inside line_end c.args.book.now l.i (omega (arith, going.0)) in
    omega (arith, c.end_of-end.ensures, within)

pub loop-i-preserved : goal.loop-i-preserved
loop-i-preserved c =
    let l = c.loop-i in
    let book = c.args.book.now in
    let end = c.end_of-end.result in
    let outcome = c.take_line-outcome.result in
    let counts = c.counted-taken in
    let put = c.put_line-at.ensures in
    let going = goes_on book l.i l.left c.loop-i-test.true in
    let within = end_inside line_end book l.i (omega (arith, going.0)) in
    let ended : (l.i ≤ end) × (end ≤ length book) = omega (arith, c.end_of-end.ensures, within) in
    let run = carried l.table l.count l.holding l.accepted l.refused in
    let line = take (end - l.i) (drop l.i book) in
    let turn = c.take_line-outcome.ensures in
    let leaves = turn.leaves in
    let none = c.empty_area-none.ensures in
    let looks : (c.match-found.found ≡ c.find-names.result.found) × (c.match-found.named ≡ area_at l.holding c.find-names.result.found) =
    elim c.match-found.branch [
      | in-Some+then-k-lt-MOST_AREAS w ↦
          (w.found-is ∙ sym w.in-Some.is, w.named-is ∙ area_here _ _ _ _ w.in-Some.is (omega (arith, w.if-k-lt-MOST_AREAS.true, l.invariant.areas)))
      | in-Some+else-k-lt-MOST_AREAS w ↦
          (w.found-is ∙ sym w.in-Some.is, w.named-is ∙ none ∙ area-out _ _ _ w.in-Some.is (omega (arith, w.if-k-lt-MOST_AREAS.false, l.invariant.areas)))
      | in_default w ↦ (w.found-is, w.named-is ∙ none ∙ area_nowhere _ _ w.in_default.is)
    ] in
    let stands = c.place.ensures.areas_after in
    let numbered = c.place.ensures.numbers_after in
    let area = looks.1 ∙ ap (area_at l.holding) (sym looks.0) in
    let six = c.schedule_six-default.ensures in
    let ran =
    turn_runs run l.numbers l.invariant.numbers line _ _ _ _ _ outcome turn.comes c.parse-parsed.ensures c.find-names.ensures looks.0 area six _ _ leaves _ _ _
    counts.result stands counts.ensures.0 refl refl in
    let puts = turn_prints run l.numbers l.invariant.numbers line _ _ _ _ _ outcome turn.comes c.parse-parsed.ensures c.find-names.ensures looks.0 area six in
    let b = l.invariant.bounds in
    record {
      bounds = record {
        book = b.book;
        place = omega (arith, ended, b.book);
        table = leaves.fits;
        some = omega (arith, ended, counts.ensures.1, b.some);
        others = omega (arith, ended, counts.ensures.1, b.others);
      };
      table = leaves.whole;
      areas = ap (λ (h : Holding). length h.areas) stands ∙ placed-long _ _ ∙ l.invariant.areas;
      long = wrote-length put.wrote ∙ l.invariant.long;
      prints = λ o p w.
          l.invariant.prints o p
          (wrote_as (printed_line run line _ _ _ ran (lines_taken book l.i end l.left going.0 going.1 c.end_of-end.ensures))
          (wrote_then (wrote_as puts put.wrote) w));
      runs = run_line book l.i end l.left going.0 going.1 c.end_of-end.ensures run _ ran ∙ l.invariant.runs;
      leaves = left_line book l.i end l.left going.0 going.1 c.end_of-end.ensures ∙ l.invariant.leaves;
      numbers = numbered;
      place = omega (arith, put.wrote.place);
      short = omega (arith, put.wrote.place, put.few, l.invariant.short, going.1);
      on = omega (arith, ended, going.1, l.invariant.on);
    }

pub returns : goal.returns
returns c =
    let l = c.loop-i in
    let a = c.args in
    let book = a.book.now in
    let run = carried l.table l.count l.holding l.accepted l.refused in
    let stop = stopped book l.i l.left c.loop-i-test.false in
    let bounded : length a.out.now ≤ greatest = omega arith in
    let none = wrote_none l.out l.at (omega (arith, l.invariant.long, bounded)) l.invariant.place in
    let part : Part = record {
      count = l.at;
      next = l.i;
      reached = record { holding = l.holding; table = l.table; count = l.count; accepted = l.accepted; refused = l.refused };
    } in
    let ran : RunOf book a.next a.reached a.most a.out.now a.at l.out part = record {
      wrote = l.invariant.prints _ _ (wrote_as (printed_none run _ stop.none) none);
      run = run_none run _ stop.none ∙ l.invariant.runs;
      left = stop.rest ∙ l.invariant.leaves;
      may = may _ _ _ _ _ l.invariant.bounds;
      on = λ many inside. ⊎_elim (λ over. omega (arith, over, inside)) (λ spent. omega (arith, l.invariant.on, many, spent)) stop.reason;
      short = omega (arith, l.invariant.short);
    } in
    runs _ _ _ _ _ _ _ _ (sym c.may_run.ensures ∙ c.if-not-may_run.false) ran
