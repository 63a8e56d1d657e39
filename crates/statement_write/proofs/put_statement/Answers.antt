-- `statement_write::put_statement` meets its contract: the first line, and the lines of the areas.
use Rattle.laws.proofs.{ℕ, ◌≤◌, ◌*◌, ◌≡◌, ap, List, arith, rules, length, length-take}
use Rattle.laws.proofs.Standing.{as_long}
use Rattle.holding.specs.{Holding, areas_of, most_areas}
use Rattle.statement_format.specs.{joined, start_text, number_text, texts, area_text, statement_of, area_width, statement_width}
use Rattle.statement_field.specs.{Put}
use Rattle.statement_field.proofs.Puts.{put_none, put_then, put_within, put_last, put_as}
use Rattle.statement_field.proofs.Texts.{put_item, put_items}
use Rattle.statement_write.proofs.put_statement.Goals as goal

-- the first line, and the lines of the areas
whole : {l m n o : List ℕ} {at p q next j : ℕ} (holding : Holding) → Put 2 l at (start_text 72) m p → Put 21 m p (number_text holding.count 10) n q
    → Put j n q (texts area_text (areas_of holding)) o next → j ≤ area_width * most_areas → Put statement_width l at (statement_of holding) o next
unfolding statement_of joined
whole holding letter count areas h = put_then letter (put_then count (put_last (put_within h areas)))

pub loop-area-init : goal.loop-area-init
unfolding texts
loop-area-init c = put_none _ _ (omega arith) (omega arith)

pub loop-area-preserved : goal.loop-area-preserved
loop-area-preserved c =
    let l = c.loop-area in
    put_item area_text _ l.area-index area_width l.invariant _ c.loop-area-test.true c.put_area-next.ensures

pub returns : goal.returns
returns c =
    let l = c.loop-area in
    let x = c.args.holding in
    let places : length x.areas ≡ most_areas = search (rules, as_long) in
    let few : length (areas_of x) ≤ most_areas = omega (arith, length-take x.count x.areas) in
    let areas = put_as (ap (texts area_text) c.standing-area-items.ensures) (put_items area_text _ l.area-index area_width l.invariant c.loop-area-test.false) in
    let all = whole x c.put_start-start.ensures c.put_field-next.ensures areas (omega (arith, l.auto.area-index-end, ap length c.standing-area-items.ensures)) in
    record { wrote = all.wrote; holding_len_bound = all.few }
