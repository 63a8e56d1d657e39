-- "A reader accepts it exactly when fields keep the ranges above ..; and the bytes are the writer's."
use Rattle.std.specs.Prelude.{◌&&◌, ◌∷◌, Ok, Err}
use Rattle.laws.specs.{ℕ, Bool, not, List, [], eqb, ltb, length}
use Rattle.refusals.specs.{Verdict, ◌⇒◌, smallest, Refusal}
use Rattle.holding.specs.{Holding, empty_holding}
use Rattle.statement_carried.specs.{Limits, limits, carried_within}
use Rattle.statement_parse.specs.{HoldingRead, holding_within}
use Rattle.statement.specs.declared.Read.{Read}

-- the bytes were read to their end, and the holding is one that a statement carries; that "the bytes are the writer's" then is
-- `accepts_that` (theorem_round_trips)
abbrev pub accepts_within : Limits → List ℕ → HoldingRead → Bool
accepts_within most s read = ltb 0 read.next && eqb read.next (length s) && carried_within most read.holding

unfoldable pub acceptable_within : Limits → List ℕ → HoldingRead → Verdict
acceptable_within most s read = smallest (not (accepts_within most s read) ⇒ Refusal.CarriedStatement ∷ [])

abbrev pub read_if : Verdict → Holding → Read
read_if (Ok _) holding = record { verdict = (Ok tt); holding = holding }
read_if (Err refusal) holding = record { verdict = Err refusal; holding = empty_holding }

-- the holding that a statement carries, or "11 statement"
unfoldable pub read_within : Limits → List ℕ → Read
read_within most s = let read = holding_within most.subs s in read_if (acceptable_within most s read) read.holding

-- ---- under the limits in force

abbrev pub accepts : List ℕ → HoldingRead → Bool
accepts = accepts_within limits

abbrev pub acceptable : List ℕ → HoldingRead → Verdict
acceptable = acceptable_within limits

abbrev pub read_of : List ℕ → Read
read_of = read_within limits
