-- A holding that a statement carries, written, reads back the same: what is read where it was written is the holding, and the whole statement is read.
use Rattle.std.specs.Prelude.{Ok}
use Rattle.laws.proofs.{◌<◌, ◌≡◌, arith, length}
use Rattle.refusals.specs.{Verdict}
use Rattle.holding.specs.{Holding}
use Rattle.statement_carried.specs.{limits}
use Rattle.theorem_keeping.specs.{Kept}
use Rattle.statement_format.specs.{start_text, joined, statement_of}
use Rattle.statement.specs.{read_of}
use Rattle.statement_places.proofs.Places.{stands_whole}
use Rattle.theorem_round_trips.proofs.WrittenReads.{holding_here}
use Rattle.statement.proofs.Accepted.{accepted-read}

statement-some : (holding : Holding) → 0 < length (statement_of holding)
unfolding statement_of joined start_text
statement-some holding = omega arith

-- a holding that a statement carries, written, reads back the same
pub written_reads : (holding : Holding) → Kept holding → read_of (statement_of holding) ≡ record { verdict = (Ok tt); holding = holding }
written_reads holding kept =
    let s = statement_of holding in
    accepted-read limits s holding (holding_here s (length s) holding kept (stands_whole s)) (statement-some holding) kept.carries
