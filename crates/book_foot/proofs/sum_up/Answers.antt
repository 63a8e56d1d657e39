-- `book_foot::sum_up` meets its contract. The loop's invariant: each sum so far and that of the areas left make the total, which fits.
use Rattle.laws.proofs.{ℕ, ◌+◌, ◌≤◌, ◌<◌, ◌≡◌, refl, sym, ap, subst, true, List, arith, length, get_or, drop}
use mir.Syntax.{w64}
use mir.Val.{Fits}
use Rattle.laws.specs.{sum_by}
use Rattle.holding.specs.{Area, Holding, areas_of}
use Rattle.holding.proofs.Items.{sum_end, sum_more}
use Rattle.holding_look.specs.{balance_of, units_received, units_surrendered}
use Rattle.book_foot.specs.{all_carried}
use Rattle.book_foot.proofs.Carried.{over_all, paid_at, most_total, received-few, surrendered-few, balance-few}
use Rattle.book_foot.proofs.sum_up.Goals as goal

module _ (holding : Holding) (areas : List Area) (stand : areas ≡ areas_of holding) where
  -- a sum with the area at a place fits, since the total does
  fits : (units : Area → ℕ) (i sum : ℕ) (d : Area) → over_all units holding ≤ most_total → i < length areas
      → sum + sum_by units (drop i areas) ≡ sum_by units areas → Fits w64 (sum + units (get_or areas i d))
  fits units i sum d few h e = omega (arith, sum_more units areas i sum _ e d _ h refl, few, ap (sum_by units) stand)

  -- and no area surrendered more than it received
  paid : all_carried holding ≡ true → (i : ℕ) (d : Area) → i < length areas → (get_or areas i d).surrendered ≤ (get_or areas i d).received
  paid e i d h =
      subst (λ (l : List Area). i < length l → (get_or l i d).surrendered ≤ (get_or l i d).received) (sym stand) (paid_at holding e i d) h

pub overflow_add-received : goal.overflow_add-received
overflow_add-received c =
    let l = c.loop-area in
    fits c.args.holding _ c.standing-area-items.ensures units_received l.area-index l.received _ (received-few _ c.requires) c.loop-area-test.true l.invariant.0

pub overflow_add-surrendered : goal.overflow_add-surrendered
overflow_add-surrendered c =
    let l = c.loop-area in
    fits c.args.holding _ c.standing-area-items.ensures units_surrendered l.area-index l.surrendered _ (surrendered-few _ c.requires) c.loop-area-test.true l.invariant.1

pub overflow_sub-balance : goal.overflow_sub-balance
overflow_sub-balance c = paid c.args.holding _ c.standing-area-items.ensures c.requires _ _ c.loop-area-test.true

pub overflow_add-balance : goal.overflow_add-balance
overflow_add-balance c =
    let l = c.loop-area in
    fits c.args.holding _ c.standing-area-items.ensures balance_of l.area-index l.balance _ (balance-few _ c.requires) c.loop-area-test.true l.invariant.2

pub loop-area-preserved : goal.loop-area-preserved
loop-area-preserved c =
    let l = c.loop-area in
    let h = c.loop-area-test.true in (
      sum_more units_received _ l.area-index l.received _ l.invariant.0 _ _ h refl,
      sum_more units_surrendered _ l.area-index l.surrendered _ l.invariant.1 _ _ h refl,
      sum_more balance_of _ l.area-index l.balance _ l.invariant.2 _ _ h refl,
    )

pub returns : goal.returns
returns c =
    let l = c.loop-area in
    let h = c.loop-area-test.false in
    let received = sum_end _ _ _ _ _ l.invariant.0 h in
    let surrendered = sum_end _ _ _ _ _ l.invariant.1 h in
    let balance = sum_end _ _ _ _ _ l.invariant.2 h in
    simp (received, surrendered, balance, c.standing-area-items.ensures)
