-- `land_predominance::leader_of` meets its contract: setting the groups left against the leader gives the predominant one.
use Rattle.laws.proofs.{◌≡◌, drop}
use mathlib.Core.List.{foldl}
use Rattle.land_predominance.specs.{leading, predominant_of}
use Rattle.land_predominance.proofs.leader_of.Given as goal

abbrev pub invariant-loop-g : goal.invariant-loop-g
invariant-loop-g l = foldl (leading l.groups.listed.now) l.leader (drop l.g-index l.others) ≡ predominant_of l.groups.listed.now
