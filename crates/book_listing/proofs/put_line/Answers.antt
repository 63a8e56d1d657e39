-- `book_listing::put_line` meets its contract, by the verdict.
use Rattle.std.specs.Prelude.{Ok, Err}
use Rattle.laws.proofs.{arith}
use Rattle.statement_field.proofs.Puts.{put_as, put_within}
use Rattle.book_listing.proofs.Printed.{accepted_prints, refused_prints}
use Rattle.book_listing.proofs.put_line.Goals as goal

pub returns-in-Ok : goal.returns-in-Ok
returns-in-Ok c =
    let p = c in
    put_as (accepted_prints _ _ p.in-Ok.is) p.put_report.ensures

pub returns-in-Err : goal.returns-in-Err
returns-in-Err c =
    let p = c in
    put_within (omega arith) (put_as (refused_prints _ _ _ p.in-Err.is) p.put_refusal.ensures)
