-- `text_field::field` meets its contract, by the tests on the ends of the part.
use Rattle.laws.proofs.{◌+◌, ◌≡◌, arith, rules, length, get_or}
use lib.ListN.{get_or-eq_default}
use Rattle.text_field.specs.{part}
use Rattle.text_field.proofs.Laws.{out_of_order, past_line, in_line}
use Rattle.text_field.proofs.field.Goals as goal

pub returns-then-k-ge6 : goal.returns-then-k-ge6
unfolding part
returns-then-k-ge6 c =
    let places = c.args.places in
    let seven : length places.starts ≡ 7 = search rules in
    let none : get_or places.starts (c.args.k + 1) 0 ≡ 0 = get_or-eq_default places.starts 0 (omega arith) in
    out_of_order _ _ _ (omega arith)

pub returns-then-next-start : goal.returns-then-next-start
unfolding part
returns-then-next-start c = out_of_order _ _ _ c.if-next-start.true

pub returns-then-line-next : goal.returns-then-line-next
unfolding part
returns-then-line-next c = past_line _ _ _ c.if-next-start.false c.if-line-next.true

pub returns : goal.returns
unfolding part
returns c = in_line _ _ _ c.if-next-start.false c.if-line-next.false
