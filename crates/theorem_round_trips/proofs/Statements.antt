-- A statement that is read writes back to the same bytes, whatever the limits are: what is read stands in the statement as the writer writes it, up to its
-- last byte.
use Rattle.std.specs.Prelude.{Ok}
use Rattle.laws.proofs.{ℕ, ◌≡◌, sym, ap, subst, ◌∙◌, List}
use Rattle.refusals.specs.{Verdict}
use Rattle.statement_carried.specs.{Limits}
use Rattle.theorem_keeping.specs.{KeptWithin}
use Rattle.statement_format.specs.{statement_of}
use Rattle.statement_parse.specs.{holding_within}
use Rattle.statement.specs.{Read, read_within}
use Rattle.statement_places.proofs.Places.{Stands, whole_stands}
use Rattle.theorem_round_trips.proofs.ReadWrites.{holding_there, holding-tidy}
use Rattle.statement.proofs.Accepted.{read-accepted, read-holding}

-- whatever the limits are
module _ (most : Limits) (s : List ℕ) (clear : (read_within most s).verdict ≡ Ok tt) where
  same-holding : (read_within most s).holding ≡ (holding_within most.subs s).holding
  same-holding = ap (λ (r : Read). r.holding) (read-holding most s clear)

  -- a statement that is read writes back to the same bytes
  pub read_writes : statement_of (read_within most s).holding ≡ s
  read_writes =
      let accepted = read-accepted most s clear in
      let there = holding_there most.subs s accepted.started in
      ap statement_of same-holding
      ∙ sym (whole_stands (subst (λ (p : ℕ). Stands s 0 (statement_of (holding_within most.subs s).holding) p) accepted.ended there))

  -- and what is read of it, a statement carries
  pub read_kept : KeptWithin most (read_within most s).holding
  read_kept = subst (KeptWithin most) (sym same-holding) (record { carries = (read-accepted most s clear).carries; tidy = holding-tidy most.subs s })
