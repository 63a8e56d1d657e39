-- `stocks::area_stock` meets its contract. The loop's invariant: the sum so far and the stocks of the sub-areas left make the whole, and the sum is
-- bounded, so that one more has room.
use Rattle.std.proofs.lemmas.List.{length-take}
use Rattle.laws.proofs.{◌*◌, ◌≤◌, ◌≡◌, refl, ap, ◌∙◌, arith, length, rules}
use Rattle.laws.specs.{sum_by}
use Rattle.laws.proofs.Standing.{as_long}
use Rattle.units.proofs.Sums.{kilograms, number, sum_is}
use Rattle.holding.specs.{Sub, most_subs}
use Rattle.holding.proofs.Items.{sum_end, sum_more}
use Rattle.stocks.specs.{sub_stock, area_stock}
use Rattle.stocks.proofs.area_stock.Goals as goal

pub loop-sub-init : goal.loop-sub-init
loop-sub-init c = let nothing = ap number c.none-sum.ensures in (omega (arith, nothing), omega (arith, nothing))

pub loop-sub-preserved : goal.loop-sub-preserved
loop-sub-preserved c =
    let l = c.loop-sub in
    let a = c.args in
    let long : length a.area.subs ≡ most_subs = search (rules, as_long) in
    let few : length c.standing-sub-items.result.now ≤ most_subs = omega (arith, ap length c.standing-sub-items.ensures, length-take a.area.count a.area.subs) in
    let one = c.sub_stock-stock.ensures in
    let sum =
    sum_is _ _ _ l.sum.0 _ (4294967295 * 65535 * 265 * l.sub-index) (4294967295 * 65535 * 265) c.plus-sum.ensures refl refl l.invariant.0 one.1 (omega arith) in
    let more = sum_more _ _ _ _ _ l.invariant.1 _ _ c.loop-sub-test.true (ap number one.0) in
    (omega (arith, sum.1), omega (arith, sum.0, more))

pub returns : goal.returns
unfolding area_stock
returns c =
    let a = c.args in
    let stock = λ (sub : Sub). (sub_stock a.own.now a.default.now sub a.year).0 in
    ap kilograms (sum_end _ _ _ _ _ c.loop-sub.invariant.1 c.loop-sub-test.false ∙ ap (sum_by stock) c.standing-sub-items.ensures)
