-- `statement_pass::pass_areas` meets its contract. The loop's invariant: what was found so far and what is found from here on make what is found of all.
use Rattle.holding_look.specs.{balance_of, units_received, units_surrendered}
use Rattle.statement_pass.proofs.Turns.{Along, Summed}
use Rattle.statement_pass.proofs.pass_areas.Given as goal

abbrev pub invariant-loop-i : goal.invariant-loop-i
invariant-loop-i l =
    Along l.s l.at l.count l.number l.kept l.numbers (record { found = l.found; area = l.named; from = l.from; to = l.to }) l.next l.i
    × Summed l.s l.at l.count l.number units_received l.kept l.received l.next l.i
    × Summed l.s l.at l.count l.number units_surrendered l.kept l.surrendered l.next l.i
    × Summed l.s l.at l.count l.number balance_of l.kept l.balance l.next l.i
