-- `stocks::area_stock` meets its contract. The loop's invariant: the sum so far and the stocks of the sub-areas left make the whole, and the sum is
-- bounded, so that one more has room.
use Rattle.laws.proofs.{◌+◌, ◌*◌, ◌≤◌, ◌≡◌, drop}
use Rattle.laws.specs.{sum_by}
use Rattle.holding.specs.{Sub}
use Rattle.stocks.specs.{sub_stock}
use Rattle.stocks.proofs.area_stock.Given as goal

abbrev pub invariant-loop-sub : goal.invariant-loop-sub
invariant-loop-sub l =
    let stock = λ (sub : Sub). (sub_stock l.own l.default sub l.year).0 in
    (l.sum.0 ≤ 4294967295 * 65535 * 265 * l.sub-index) × (l.sum.0 + sum_by stock (drop l.sub-index l.sub-items) ≡ sum_by stock l.sub-items)
