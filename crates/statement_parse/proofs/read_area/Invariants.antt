-- `statement_parse::read_area` meets its contract: each part is read at the place after the one before, as in the definition. The loop's invariant: the
-- sub-areas left to read give, from here on, what all of them give from the start, and nothing else of the area changes.
use Rattle.laws.proofs.{◌-◌, ◌≡◌, length, replicate}
use Rattle.holding.specs.{most_subs, empty_sub, with_subs}
use Rattle.statement_parse.specs.{subs_from}
use Rattle.statement_parse.proofs.read_area.Given as goal

abbrev pub invariant-loop-i : goal.invariant-loop-i
invariant-loop-i l = (length l.area.subs ≡ most_subs) × (l.area ≡ with_subs l.n l.area.subs l.initial.area)
    × (subs_from l.s (l.n - l.i) l.i l.area.subs l.next ≡ subs_from l.s l.n 0 (replicate most_subs empty_sub) l.initial.next)
