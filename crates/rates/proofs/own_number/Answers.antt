-- `rates::own_number` meets its contract: the residue columns come behind the five stock columns.
use Rattle.laws.proofs.{ap, sym, ◌∙◌, ℕ, ◌+◌, arith}
use Rattle.schedules.specs.{Kind}
use Rattle.rates.specs.{own_number}
use Rattle.rates.proofs.LookUp.{at_most_ten, five_more}
use Rattle.rates.proofs.own_number.Goals as goal

pub returns-in-Residue : goal.returns-in-Residue
returns-in-Residue c =
    ap (λ (n : ℕ). 5 + n) c.own_stock-stock.ensures ∙ five_more _
    ∙ sym (ap (λ (kind : Kind). own_number kind c.args.forest) c.in-Residue.is)

pub overflow_add-result : goal.overflow_add-result
overflow_add-result c = omega (arith, c.own_stock-stock.ensures, at_most_ten c.args.forest)
