-- `book_foot::sum_up` meets its contract. The loop's invariant: each sum so far and that of the areas left make the total, which fits.
use Rattle.laws.proofs.{◌+◌, ◌≡◌, drop}
use Rattle.laws.specs.{sum_by}
use Rattle.holding_look.specs.{balance_of, units_received, units_surrendered}
use Rattle.book_foot.proofs.sum_up.Given as goal

abbrev pub invariant-loop-area : goal.invariant-loop-area
invariant-loop-area l = let left = drop l.area-index l.area-items in
    (l.received + sum_by units_received left ≡ sum_by units_received l.area-items)
    × (l.surrendered + sum_by units_surrendered left ≡ sum_by units_surrendered l.area-items)
    × (l.balance + sum_by balance_of left ≡ sum_by balance_of l.area-items)
