-- `land_clearings::counting` meets its contract: setting the clearings left against the oldest so far gives the one that counts.
use Rattle.laws.proofs.{◌≡◌, drop}
use mathlib.Core.List.{foldl}
use Rattle.land_clearings.specs.{counting_of}
use Rattle.land_clearings.proofs.Window.{next}
use Rattle.land_clearings.proofs.counting.Given as goal

abbrev pub invariant-loop-c : goal.invariant-loop-c
invariant-loop-c l = foldl (next l.own) l.best (drop l.c-index l.earlier) ≡ counting_of l.own l.earlier
