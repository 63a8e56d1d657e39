-- What the test of a statement makes of it: the holding read, or the refusal and the empty holding.
use Rattle.std.specs.Prelude.{Ok, Err}
use Rattle.laws.proofs.{ℕ, true, false, ◌≡◌, List}
use Rattle.refusals.specs.{weighed, weigh_all, smallest, Refusal, Verdict}
use Rattle.holding.specs.{Holding, empty_holding}
use Rattle.statement_parse.specs.{HoldingRead}
use Rattle.statement.specs.{accepts, acceptable, acceptable_within, read_if}

module _ (s : List ℕ) (read : HoldingRead) where
  pub taken : accepts s read ≡ true → record { verdict = (Ok tt); holding = read.holding } ≡ read_if (acceptable s read) read.holding
  unfolding acceptable_within smallest weigh_all weighed
  taken e = simp e

  pub refused : (empty : Holding) → empty ≡ empty_holding → accepts s read ≡ false
      → record { verdict = Err Refusal.CarriedStatement; holding = empty } ≡ read_if (acceptable s read) read.holding
  unfolding acceptable_within smallest weigh_all weighed
  refused empty h e = simp (h, e)
