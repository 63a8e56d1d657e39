-- `call_column::judge_cells` meets its contract: the array has room for any table, and what the pass over the statement finds is what it is read as.
use Rattle.laws.proofs.{ℕ, ◌≡◌, ap, ◌∙◌, arith, leb, length, take}
use Rattle.refusals.specs.{Verdict, smaller, weighed, Refusal}
use Rattle.table.specs.{longest_table}
use Rattle.table_extend.specs.{begun, extensible}
use Rattle.statement_pass.specs.{Passed, passed_over}
use Rattle.call_column.specs.{cells_verdict}
use Rattle.call_column.proofs.judge_cells.Goals as goal

pub returns : goal.returns
unfolding cells_verdict passed_over
returns c =
    let weighs = c in
    let judges = weighs in
    let p = judges in
    let a = p.args in
    let long : length a.numbers.now ≡ longest_table = omega arith in
    let table = judges.judge-table_verdict.ensures ∙ ap (λ (room : ℕ). extensible (begun (take a.count a.numbers.now)) a.column a.cells.now room) long in
    c.least.ensures
    ∙ ap (smaller p.pass-passed.result.verdict) (weighs.weigh-grown_verdict.ensures ∙ ap (λ (v : Verdict). weighed v (leb 1 p.pass-passed.result.looked.count) Refusal.TableAfterArea) table)
    ∙ ap (λ (x : Passed). smaller x.verdict (weighed (extensible (begun (take a.count a.numbers.now)) a.column a.cells.now longest_table) (leb 1 x.looked.count) Refusal.TableAfterArea)) p.pass-passed.ensures
