-- `book_run::place` meets its contract, by the place of the outcome.
use Rattle.laws.proofs.{ap, ◌∙◌, List, arith}
use Rattle.laws.proofs.Standing.{map-set}
use Rattle.holding.specs.{Area, Holding}
use Rattle.step_outcome.proofs.Laws.{placed_here, placed-out, placed_nowhere}
use Rattle.book_run.proofs.Rows.{holding_of}
use Rattle.book_run.proofs.place.Goals as goal
use Rattle.book_run.proofs.place.Goals.{then-k-lt-MOST_AREAS, else-k-lt-MOST_AREAS}

pub returns-after-k-lt-MOST_AREAS-clause-areas_after : goal.returns-after-k-lt-MOST_AREAS-clause-areas_after
returns-after-k-lt-MOST_AREAS-clause-areas_after c =
    let a = c.args in
    let before = holding_of a.standing.now a.areas.now in
    let with : List Area → Holding = holding_of a.outcome.now.count in
    elim c.if-k-lt-MOST_AREAS.branch [
      | then-k-lt-MOST_AREAS w ↦ ap with w.areas-is ∙ placed_here before a.outcome.now _ c.in-Some.is
      | else-k-lt-MOST_AREAS w ↦ ap with w.areas-is ∙ placed-out before a.outcome.now _ c.in-Some.is (omega (arith, w.if-k-lt-MOST_AREAS.false, c.told-areas))
    ]

pub returns-after-k-lt-MOST_AREAS-clause-numbers_after : goal.returns-after-k-lt-MOST_AREAS-clause-numbers_after
returns-after-k-lt-MOST_AREAS-clause-numbers_after c =
    elim c.if-k-lt-MOST_AREAS.branch [
      | then-k-lt-MOST_AREAS w ↦ simp (w.numbers-is, w.areas-is, map-set, c.requires)
      | else-k-lt-MOST_AREAS w ↦ simp (w.numbers-is, w.areas-is, c.requires)
    ]

pub returns-in_default-clause-areas_after : goal.returns-in_default-clause-areas_after
returns-in_default-clause-areas_after c = placed_nowhere (holding_of c.args.standing.now c.args.areas.now) c.args.outcome.now c.in_default.is
