-- `statement_distinct::numbers` meets its contract. The loop's invariant: what stands apart so far and from here on makes the whole.
use Rattle.std.specs.List.{list_any}
use Rattle.laws.proofs.{ℕ, ◌≡◌, ap, ◌∙◌, ◌+◌, ◌-◌, arith, eqb, length, get_or, take, drop, take_all, length-drop}
use Rattle.holding.proofs.Items.{distinct_end, distinct_more, any_is_some}
use Rattle.statement_distinct.proofs.numbers.Goals as goal

pub loop-i-preserved : goal.loop-i-preserved
loop-i-preserved c =
    let l = c.args.numbers.now in
    let i = c.loop-i.i in
    let behind = drop (i + 1) l in
    let test = λ (b : ℕ). eqb b (get_or l i 0) in
    let again : c.contains-again.result ≡ list_any test (take (length l - (i + 1)) behind) = c.contains-again.ensures.value in
    let all : take (length l - (i + 1)) behind ≡ behind = take_all _ behind (omega (arith, length-drop (i + 1) l)) in
    distinct_more (λ (n : ℕ). n) l i _ _ c.loop-i.invariant 0 _ c.loop-i-test.true (again ∙ ap (list_any test) all ∙ any_is_some test behind)

pub returns : goal.returns
returns c = distinct_end _ _ _ _ _ c.loop-i.invariant c.loop-i-test.false
