-- `land_clearings::set_against` meets its contract, by the two tests.
use Rattle.land_clearings.specs.{elder}
use Rattle.land_clearings.proofs.set_against.Goals as goal

pub returns-then-is_older : goal.returns-then-is_older
unfolding elder
returns-then-is_older c = let w = c.is_within.ensures in let o = c.is_older.ensures in simp (← w, ← o, c.if-is_within.true, c.if-is_older.true)

pub returns-then-is_within : goal.returns-then-is_within
unfolding elder
returns-then-is_within c = let w = c.is_within.ensures in let o = c.is_older.ensures in simp (← w, ← o, c.if-is_within.true, c.if-is_older.false)
