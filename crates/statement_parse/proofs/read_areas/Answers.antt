-- `statement_parse::read_areas` meets its contract. The loop's invariant: the areas left to read give, from here on, what all of them give from the start.
use Rattle.laws.proofs.{ℕ, ap, ◌∙◌, List, length-set}
use Rattle.holding.specs.{Area}
use Rattle.statement_parse.specs.{AreaRead, areas_from_within, areas_within}
use Rattle.statement_parse.proofs.Items.{items_more, items_done}
use Rattle.statement_parse.proofs.read_areas.Goals as goal

pub loop-i-preserved : goal.loop-i-preserved
unfolding areas_from_within
loop-i-preserved c =
    let l = c.loop-i in
    let read = c.read_area-read.ensures in (
      simp length-set l.invariant.0,
      items_more _ _ _ l.i l.areas l.next _ _ c.loop-i-test.true
          (ap (λ (x : AreaRead). x.area) read) (ap (λ (x : AreaRead). x.next) read)
          ∙ l.invariant.1,
    )

pub returns : goal.returns
unfolding areas_within areas_from_within
returns c =
    let l = c.loop-i in
    ap (λ (x : List Area × ℕ). record { areas = x.0; next = x.1 }) (items_done _ _ _ l.i l.areas l.next c.loop-i-test.false ∙ l.invariant.1)
