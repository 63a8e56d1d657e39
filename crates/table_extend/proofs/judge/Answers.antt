-- `table_extend::judge` meets its contract: where there is no table yet, ten lengths of 0 are judged.
use Rattle.laws.proofs.{ℕ, eqb-true, eqb-false, sym, ap, ◌∙◌, List, length, take}
use Rattle.table_extend.specs.{extensible}
use Rattle.table_extend.proofs.Begun.{begun_none, begun-some}
use Rattle.table_extend.proofs.judge.Goals as goal

pub returns-then-is_empty : goal.returns-then-is_empty
returns-then-is_empty c =
    let p = c in
    let a = p.args in
    c.judge_begun.ensures
    ∙ ap (λ (l : List ℕ). extensible l a.column a.cells.now (length a.numbers.now))
    (sym (begun_none (take a.count a.numbers.now) (ap length (sym p.part-own.ensures) ∙ eqb-true _ _ (sym c.is_empty.ensures ∙ c.if-is_empty.true))))

pub returns : goal.returns
returns c =
    let p = c in
    let a = p.args in
    c.judge_begun-2.ensures
    ∙ ap (λ (l : List ℕ). extensible l a.column a.cells.now (length a.numbers.now))
    (p.part-own.ensures ∙ sym (begun-some (take a.count a.numbers.now) (λ e. eqb-false _ _ (sym c.is_empty.ensures ∙ c.if-is_empty.false) (ap length p.part-own.ensures ∙ e))))
