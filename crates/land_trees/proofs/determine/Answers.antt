-- `land_trees::determine` meets its contract, by the verdict: a clear one leaves few groups, so that the first of them are all, and an age of at most 300.
use Rattle.std.specs.Prelude.{Err}
use Rattle.laws.proofs.{◌≡◌, sym, ap, ◌∙◌, arith, rules}
use Rattle.refusals.specs.{Verdict}
use Rattle.land_trees.specs.{answer_of, held_of, hectare_of}
use Rattle.land_trees.proofs.Determined.{age_at_most, when_clear, of_all}
use Rattle.land_trees.proofs.determine.Goals as goal

pub returns-in_err-judge : goal.returns-in_err-judge
unfolding answer_of held_of hectare_of
returns-in_err-judge c =
    let e : c.from_residual.result ≡ Err c.in_err-judge.field-0.0 = search rules in
    e ∙ ap (λ (v : Verdict). answer_of v c.args.groups.now) (sym c.in_err-judge.was ∙ c.judge.ensures)

pub overflow_cast-age : goal.overflow_cast-age
overflow_cast-age c =
    let clear = sym c.in_ok-judge.was ∙ c.judge.ensures in
    let all = of_all _ _ clear _ _ c.predominant-leader.ensures c.hectare_age-age.ensures in
    omega (arith, age_at_most _ _ _ clear _ _ all.0 all.1)

pub returns : goal.returns
unfolding hectare_of
returns c =
    let clear = sym c.in_ok-judge.was ∙ c.judge.ensures in
    let all = of_all _ _ clear _ _ c.predominant-leader.ensures c.hectare_age-age.ensures in
    when_clear _ _ _ clear _ _ all.0 all.1
