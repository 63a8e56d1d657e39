-- The areas that stand, as a holding.
use Rattle.laws.proofs.{ℕ, List}
use Rattle.holding.specs.{Area, Holding}

abbrev pub standing : ℕ → List Area → Holding
standing count areas = record { count = count; areas = areas }
