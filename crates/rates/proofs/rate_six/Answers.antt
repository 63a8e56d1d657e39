-- Bare land has no rate.
use Rattle.laws.proofs.{sym, ap, ◌∙◌}
use Rattle.forest.specs.{Forest}
use Rattle.rates.specs.{rate_six}
use Rattle.rates.proofs.BareLand.{none_on_bare}
use Rattle.rates.proofs.rate_six.Goals as goal

pub returns-in-Bare : goal.returns-in-Bare
returns-in-Bare c =
    let a = c.args in
    none_on_bare a.own.now a.default.now a.kind a.age
    ∙ sym (ap (λ (forest : Forest). rate_six a.own.now a.default.now a.kind forest a.age) c.in-Bare.is)
