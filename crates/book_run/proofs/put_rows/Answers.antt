-- `book_run::put_rows` meets its contract: a turn of the loop is a turn of the fold, and a line's row is put where it is exported.
use Rattle.laws.proofs.{ℕ, ◌-◌, ◌≤◌, ◌≡◌, refl, sym, ap, ◌∙◌, List, arith, length, take, drop}
use Rattle.text.specs.{greatest, line_end}
use Rattle.text.proofs.Widths.{end_inside}
use Rattle.text.proofs.Writes.{wrote_none, wrote_then, wrote_as, wrote-length}
use Rattle.holding.specs.{Holding, numbers_in}
use Rattle.step_outcome.proofs.Laws.{placed-long}
use Rattle.sheet_write.specs.{sheet_text}
use Rattle.book_export.specs.{exported_from}
use Rattle.book_find.proofs.Naming.{looked_for}
use Rattle.book_listing.specs.{start}
use Rattle.book_listing.proofs.Lines.{lines_none, lines_run_lem}
use Rattle.book_run.proofs.Exports.{Went, went_refused, went_column, went_act}
use Rattle.book_run.proofs.Following.{turn_exports, turn_runs}
use Rattle.book_run.proofs.Rows.{uncounted, holding_of, rows_alike, rows_over, lines_next, rows_line, rows_none}
use Rattle.book_run.proofs.put_rows.Goals as goal
use Rattle.book_run.proofs.put_rows.Goals.{in-Ok+in-Column, in-Ok+in-On, in_default}

pub returns-then-book-gt-LONGEST_BOOK : goal.returns-then-book-gt-LONGEST_BOOK
returns-then-book-gt-LONGEST_BOOK c =
    let a = c.args in
    wrote_as (rows_over a.book.now c.if-book-gt-LONGEST_BOOK.true) (wrote_none a.out.now a.at (omega arith) (omega arith))

pub loop-i-init : goal.loop-i-init
unfolding start
loop-i-init c = record {
  many = refl;
  numbers = simp c.empty_area-areas.ensures;
  table = refl;
  fits = omega arith;
  long = refl;
  place = omega arith;
  puts = λ o p w. rw c.empty_area-areas.ensures at w;
}

pub slice_bounds-parse-end : goal.slice_bounds-parse-end
slice_bounds-parse-end c =
    let within = end_inside line_end c.args.book.now c.loop-i.i (omega (arith, c.loop-i-test.true)) in
    omega (arith, c.end_of-end.ensures, within)

pub loop-i-preserved : goal.loop-i-preserved
loop-i-preserved c =
    let l = c.loop-i in
    let m = c.match-parsed in
    let book = c.args.book.now in
    let end = c.end_of-end.result in
    let run = uncounted (take l.count l.table) (holding_of l.standing l.areas) in
    let line = take (end - l.i) (drop l.i book) in
    let bounded : length c.args.out.now ≤ greatest = omega arith in
    let lent : length l.out ≤ greatest = omega (arith, l.invariant.long, bounded) in
    let read = c.parse-parsed.ensures in
    let six = c.schedule_six-default.ensures in
    let looked = looked_for run.holding l.numbers c.parse-parsed.result in
    let came : Went run.own c.schedule_six-default.result looked line c.parse-parsed.result run.holding l.out l.at m.table m.count
    (holding_of m.standing m.areas) m.out m.at
    × (m.numbers ≡ numbers_in m.areas) =
    elim m.branch [
      | in-Ok+in-Column w ↦
          let t = w.take_column.ensures in
          rw (w.table-is, w.count-is, w.standing-is, w.areas-is, w.out-is, w.at-is, w.numbers-is) (
            went_column l.table l.count l.invariant.fits l.invariant.table _ run.holding l.numbers line _ l.out l.at lent l.invariant.place _ _
                w.in-Ok.is w.in-Column.is _ _ _ t.value t.table_after t.count_after,
            l.invariant.numbers,
          )
      | in-Ok+in-On w ↦
          let act = w.take_act-verdict.ensures in
          rw (w.table-is, w.count-is, w.standing-is, w.areas-is, w.out-is, w.at-is, w.numbers-is) (
            went_act l.table l.count l.invariant.fits l.invariant.table _ run.holding l.numbers line _ l.out l.at lent l.invariant.place
                l.invariant.numbers _ _ w.in-Ok.is w.in-On.is _ act.value _ act.areas_after w.put_row-at.new.out w.put_row-at.result w.put_row-at.ensures,
            act.numbers_after,
          )
      | in_default w ↦
          rw (w.table-is, w.count-is, w.standing-is, w.areas-is, w.out-is, w.at-is, w.numbers-is) (
            went_refused l.table l.count l.invariant.fits l.invariant.table _ run.holding l.numbers line _ l.out l.at lent l.invariant.place _ w.in_default.is,
            l.invariant.numbers,
          )
    ] in
    let went = came.0 in
    let leaves = went.turn.leaves in
    let ran =
    turn_runs run l.numbers l.invariant.numbers line _ _ _ _ _ went.outcome went.turn.comes read refl refl refl six _ _ leaves _ _ _ _ went.stands refl refl refl in
    let puts = turn_exports run l.numbers l.invariant.numbers line _ _ _ _ _ went.outcome went.turn.comes read refl refl refl six in
    record {
      many = ap (λ (h : Holding). length h.areas) went.stands ∙ placed-long _ _ ∙ l.invariant.many;
      numbers = came.1;
      table = leaves.whole;
      fits = leaves.fits;
      long = wrote-length went.wrote ∙ l.invariant.long;
      place = omega (arith, went.wrote.place);
      puts = λ o p w.
          l.invariant.puts o p
          (wrote_as (rows_line run line _ _ _ ran (lines_next book l.i end c.loop-i-test.true c.end_of-end.ensures))
          (wrote_then (wrote_as (ap sheet_text puts) went.wrote) (wrote_as (rows_alike _ _) w)));
    }

pub returns : goal.returns
returns c =
    let l = c.loop-i in
    let book = c.args.book.now in
    let run = uncounted (take l.count l.table) (holding_of l.standing l.areas) in
    let bounded : length c.args.out.now ≤ greatest = omega arith in
    let none = wrote_none l.out l.at (omega (arith, l.invariant.long, bounded)) l.invariant.place in
    wrote_as (ap (λ (lines : List (List ℕ)). sheet_text (exported_from start lines)) (sym (lines_run_lem book c.if-book-gt-LONGEST_BOOK.false)))
    (l.invariant.puts _ _ (wrote_as (rows_none run _ (lines_none book l.i c.loop-i-test.false)) none))
