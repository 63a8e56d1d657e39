-- `book_run::column_outcome` meets its contract, by the verdict.
use Rattle.laws.proofs.{refl}
use Rattle.step_outcome.specs.{answered}
use Rattle.book_run.proofs.column_outcome.Goals as goal
use Rattle.book_run.proofs.column_outcome.Goals.{in-Err, in-Ok}

pub returns : goal.returns
unfolding answered
returns c =
    elim c.match-verdict.branch [
      | in-Err w ↦ rw (w.in-Err.is, w.count-is, c.empty_area-area.ensures) refl
      | in-Ok w ↦ rw (w.in-Ok.is, w.count-is, c.empty_area-area.ensures) refl
    ]
