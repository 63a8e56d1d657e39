-- `statement_write::put_area` meets its contract: the area's line, and the lines of its sub-areas.
use Rattle.laws.proofs.{ℕ, ◌≤◌, ◌*◌, ◌≡◌, ap, List, arith, rules, length, length-take}
use Rattle.laws.proofs.Standing.{as_long}
use Rattle.holding.specs.{Area, subs_of, most_subs}
use Rattle.statement_format.specs.{joined, start_text, number_text, years_text, amounts_text, texts, sub_text, area_text, sub_width, years_width, amounts_width, area_width}
use Rattle.statement_field.specs.{Put}
use Rattle.statement_field.proofs.Puts.{put_none, put_then, put_within, put_last, put_as}
use Rattle.statement_field.proofs.Texts.{put_item, put_items}
use Rattle.statement_write.proofs.put_area.Goals as goal

-- the area's line, and the lines of its sub-areas
whole : {l m n o p q : List ℕ} {at a b c d next j : ℕ} (area : Area) → Put 2 l at (start_text 65) m a → Put years_width m a (years_text area) n b
    → Put amounts_width n b (amounts_text area) o c → Put 21 o c (number_text area.count 10) p d → Put j p d (texts sub_text (subs_of area)) q next
    → j ≤ sub_width * most_subs → Put area_width l at (area_text area) q next
unfolding area_text joined
whole area letter years amounts count subs h = put_then letter (put_then years (put_then amounts (put_then count (put_last (put_within h subs)))))

pub loop-sub-init : goal.loop-sub-init
unfolding texts
loop-sub-init c = put_none _ _ (omega arith) (omega arith)

pub loop-sub-preserved : goal.loop-sub-preserved
loop-sub-preserved c =
    let l = c.loop-sub in
    put_item sub_text _ l.sub-index sub_width l.invariant _ c.loop-sub-test.true c.put_sub-next.ensures

pub returns : goal.returns
returns c =
    let l = c.loop-sub in
    let x = c.args.area in
    let places : length x.subs ≡ most_subs = search (rules, as_long) in
    let few : length (subs_of x) ≤ most_subs = omega (arith, length-take x.count x.subs) in
    let subs = put_as (ap (texts sub_text) c.standing-sub-items.ensures) (put_items sub_text _ l.sub-index sub_width l.invariant c.loop-sub-test.false) in
    whole x c.put_start-next.ensures c.put_years-next.ensures c.put_amounts-next.ensures c.put_field-next.ensures subs
    (omega (arith, l.auto.sub-index-end, ap length c.standing-sub-items.ensures))
