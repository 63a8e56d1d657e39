-- `statement_parse::read_areas` meets its contract. The loop's invariant: the areas left to read give, from here on, what all of them give from the start.
use Rattle.laws.proofs.{◌-◌, ◌≡◌, length, replicate}
use Rattle.holding.specs.{most_areas, empty_area}
use Rattle.statement_parse.specs.{areas_from}
use Rattle.statement_parse.proofs.read_areas.Given as goal

abbrev pub invariant-loop-i : goal.invariant-loop-i
invariant-loop-i l = (length l.areas ≡ most_areas) × (areas_from l.s (l.count - l.i) l.i l.areas l.next ≡ areas_from l.s l.count 0 (replicate most_areas empty_area) l.at)
