-- What follows from the two round trips of demand 2, over every holding and every list of bytes: when a statement is accepted, and that what entries reach
-- is written and read back as it was.
use Rattle.std.specs.Prelude.{Ok}
use Rattle.laws.proofs.{ℕ, ◌≡◌, sym, ap, ◌∙◌, List}
use mathlib.Core.Logic.{◌↔◌}
use Rattle.refusals.specs.{Verdict}
use Rattle.line_entry.specs.{AreaAct}
use Rattle.holding.specs.{Holding, empty_holding}
use Rattle.step_outcome.specs.{placed}
use Rattle.step.specs.{stepped, holding_from}
use Rattle.statement_carried.specs.{limits}
use Rattle.theorem_keeping.specs.{Kept}
use Rattle.theorem_keeping.proofs.Keeping.{step_keeps, list_keeps, reached-kept}
use Rattle.statement_format.specs.{statement_of}
use Rattle.statement.specs.{Read, read_of}
pub use Rattle.theorem_round_trips.proofs.Holdings.{written_reads}
pub use Rattle.theorem_round_trips.proofs.Statements.{read_writes, read_kept}

-- a holding that a statement carries is the only one that its statement is read as
pub accepts_that : (s : List ℕ) (holding : Holding) → Kept holding → statement_of holding ≡ s → read_of s ≡ record { verdict = (Ok tt); holding = holding }
accepts_that s holding kept e = sym (ap read_of e) ∙ written_reads holding kept

-- "A reader accepts it exactly when .. the bytes are the writer's": they are the statement of a holding that a statement carries
pub accepts_just_when : (s : List ℕ) → ((read_of s).verdict ≡ Ok tt) ↔ ((holding : Holding) × Kept holding × (statement_of holding ≡ s))
accepts_just_when s = (
  (λ clear. ((read_of s).holding, read_kept limits s clear, read_writes limits s clear)),
  (λ written. ap (λ (r : Read). r.verdict) (accepts_that s written.0 written.1 written.2)),
)

-- "A holding reached by entries, written as a statement, reads back the same"
pub reached_reads_back : (own : List ℕ) (es : List AreaAct)
    → read_of (statement_of (holding_from own empty_holding es)) ≡ record { verdict = (Ok tt); holding = holding_from own empty_holding es }
reached_reads_back own es = written_reads (holding_from own empty_holding es) (reached-kept own es)

-- what a step makes of a holding that was read can again be written and read, and so what a list of entries makes of it
pub carried_on : (own s : List ℕ) (entry : AreaAct) → (read_of s).verdict ≡ Ok tt
    → (let after = placed (read_of s).holding (stepped own (read_of s).holding entry) in
    read_of (statement_of after) ≡ record { verdict = (Ok tt); holding = after })
carried_on own s entry clear = written_reads _ (step_keeps own (read_of s).holding entry (read_kept limits s clear))

pub carried_through : (own s : List ℕ) (es : List AreaAct) → (read_of s).verdict ≡ Ok tt
    → (let after = holding_from own (read_of s).holding es in read_of (statement_of after) ≡ record { verdict = (Ok tt); holding = after })
carried_through own s es clear = written_reads _ (list_keeps own (read_of s).holding es (read_kept limits s clear))
