-- `land_groups::Groups::type_weights` meets its contract: both sums so far and those of the groups left make the type's.
use Rattle.laws.proofs.{ℕ, Bool, cond, ◌≡◌, ap, ◌∙◌, arith, rules}
use Rattle.land_groups.specs.{weights_of}
use Rattle.land_groups.proofs.Turns.{sum_end, sum_more}
use Rattle.land_groups.proofs.Groups.type_weights.Goals as goal

counted : (t passes : Bool) (m x : ℕ) → t ≡ passes → x ≡ cond t m 0 → x ≡ cond passes m 0
counted t passes m x e f = f ∙ ap (λ (b : Bool). cond b m 0) e

pub loop-g-init : goal.loop-g-init
unfolding weights_of
loop-g-init c = (omega arith, omega arith, search rules, search rules)

pub loop-g-preserved : goal.loop-g-preserved
loop-g-preserved c =
    let stands = c.loop-g-test.true in
    let counts = c.is_of-counts.ensures in (
      sum_more _ _ _ _ _ c.loop-g.invariant.0 _ _ stands (counted _ _ _ _ counts c.area_if-area.ensures.0),
      sum_more _ _ _ _ _ c.loop-g.invariant.1 _ _ stands (counted _ _ _ _ counts c.weighted_if-age.ensures.0),
      omega arith,
      omega arith,
    )

pub returns : goal.returns
returns c =
    let v = c.loop-g.invariant in
    let a = sum_end _ _ _ _ _ v.0 c.loop-g-test.false in
    let w = sum_end _ _ _ _ _ v.1 c.loop-g-test.false in
    ((λ i. record { area = a i; age = w i }), omega arith, omega arith)
