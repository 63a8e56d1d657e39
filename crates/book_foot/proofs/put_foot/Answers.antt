-- `book_foot::put_foot` meets its contract, by whether a statement carries the fields of every area.
use Rattle.laws.proofs.{sym, ap, ◌∙◌, arith}
use Rattle.statement_field.proofs.Puts.{put_as, put_within}
use Rattle.book_foot.specs.{units_text}
use Rattle.book_foot.proofs.Feet.{foot_stands, foot_refused}
use Rattle.book_foot.proofs.put_foot.Goals as goal

pub returns-then-all_carried : goal.returns-then-all_carried
returns-then-all_carried c =
    let put = c in
    let units = put in
    let all = sym units.all_carried.ensures ∙ units.if-all_carried.true in
    put_as (ap units_text units.sum_up-units.ensures ∙ foot_stands _ all) put.put_foot.ensures

pub returns : goal.returns
returns c =
    let put = c in
    let test = put in
    put_within (omega arith) (put_as (foot_refused _ (sym test.all_carried.ensures ∙ test.if-all_carried.false)) put.put_refusal.ensures)
