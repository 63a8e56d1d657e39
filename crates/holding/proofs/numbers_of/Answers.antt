-- `holding::numbers_of` meets its contract: the loop stores the numbers from the front, and there are as many as places.
use Rattle.laws.proofs.{ℕ, ◌+◌, ◌≡◌, subst, List, arith, length, set, replicate, length-map, rules}
use native.Mathlib.Nat.{zero-add}
use lib.ListN.{get_or-map}
use Rattle.laws.proofs.Standing.{as_long}
use Rattle.laws.proofs.Stores.{Storing, storing_more}
use Rattle.holding.specs.{Area, most_areas, numbers_in}
use Rattle.holding.proofs.numbers_of.Goals as goal

abbrev noughts : List ℕ
noughts = replicate most_areas 0

pub loop-k-preserved : goal.loop-k-preserved
loop-k-preserved c =
    let l = c.loop-k in
    let areas = c.args.holding.areas in
    let long : length areas ≡ most_areas = search (rules, as_long) in
    let inside : length (numbers_in areas) ≡ most_areas = simp (length-map, long) in
    subst (λ (n : ℕ). Storing (numbers_in areas) noughts 0 (set l.numbers l.k n) (l.k + 1)) (get_or-map (λ (a : Area). a.number) areas l.k _)
    (simp (zero-add l.k) at (storing_more (numbers_in areas) noughts 0 0 l.numbers l.k (omega (arith, c.loop-k-test.true)) l.invariant))
