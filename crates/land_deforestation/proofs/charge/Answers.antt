-- `land_deforestation::charge` meets its contract, by the verdict, which also says that the parcels are few enough to sum.
use Rattle.std.specs.Prelude.{Ok, Err}
use Rattle.laws.proofs.{ℕ, ◌≡◌, sym, ap, ◌∙◌, arith, rules, List}
use Rattle.refusals.specs.{Verdict}
use Rattle.units.specs.{tonnes}
use Rattle.units.proofs.Sums.{number}
use Rattle.land_deforestation.specs.{total_of, answer_of, emissions_of, Emissions}
use Rattle.land_deforestation.proofs.Taken.{few}
use Rattle.land_deforestation.proofs.charge.Goals as goal

pub returns-in_err-judge : goal.returns-in_err-judge
unfolding answer_of emissions_of
returns-in_err-judge c =
    let e : c.from_residual.result ≡ Err c.in_err-judge.field-0.0 = search rules in
    e ∙ ap (λ (v : Verdict). answer_of v c.args.held.now) (sym c.in_err-judge.was ∙ c.judge.ensures)

pub total-requires : goal.total-requires
total-requires c = omega (arith, few _ _ (sym c.judge.ensures ∙ c.in_ok-judge.was), c.requires)

pub returns : goal.returns
unfolding answer_of emissions_of
returns c =
    let ps = c.args.held.now in
    let kg = ap number (c.total.ensures ∙ ap (λ (cells : List ℕ). total_of cells ps) c.schedule_four-cells.ensures) in
    let told : ◌≡◌ {A = Emissions} (Ok c.to_tonnes.result) (answer_of (Ok tt) ps) = ap (λ (n : ℕ). Ok n) (c.to_tonnes.ensures ∙ ap tonnes kg) in
    told ∙ ap (λ (v : Verdict). answer_of v ps) (sym c.in_ok-judge.was ∙ c.judge.ensures)
