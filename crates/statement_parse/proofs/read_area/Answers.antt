-- `statement_parse::read_area` meets its contract: each part is read at the place after the one before, as in the definition. The loop's invariant: the
-- sub-areas left to read give, from here on, what all of them give from the start, and nothing else of the area changes.
use Rattle.laws.proofs.{ℕ, ◌≡◌, ap, ◌∙◌, List, set, length-set}
use Rattle.holding.specs.{Sub, Area, with_subs}
use Rattle.statement_parse.specs.{SubRead, AreaRead, area_begun, subs_from, subs_within, area_line_within}
use Rattle.statement_parse.proofs.Items.{items_more, items_done}
use Rattle.statement_parse.proofs.read_area.Goals as goal

set-subs : (area begun : Area) (subs other : List Sub) (n : ℕ) → area ≡ with_subs n subs begun → with_subs area.count other area ≡ with_subs n other begun
set-subs area begun subs other n e = ap (λ (a : Area). with_subs a.count other a) e

-- the area and the place after it, by all the sub-areas read
read_all : (begun area : Area) (n next : ℕ) (all : List Sub × ℕ) → area ≡ with_subs n area.subs begun → (area.subs, next) ≡ all
    → ◌≡◌ {A = AreaRead} (record { area = area; next = next }) (record { area = with_subs n all.0 begun; next = all.1 })
read_all begun area n next all e f =
    ap (λ (a : Area). record { area = a; next = next }) e ∙ ap (λ (x : List Sub × ℕ). record { area = with_subs n x.0 begun; next = x.1 }) f

pub loop-i-preserved : goal.loop-i-preserved
unfolding subs_from
loop-i-preserved c =
    let l = c.loop-i in
    let amounts = c in
    let read = c.read_sub-read.ensures in (
      simp length-set l.invariant.0,
      set-subs l.area (area_begun amounts.read_years-years.result amounts.read_amounts-amounts.result) _ (set l.area.subs l.i c.read_sub-read.result.sub) _ l.invariant.1,
      items_more _ _ _ l.i l.area.subs l.next _ _ c.loop-i-test.true
          (ap (λ (x : SubRead). x.sub) read) (ap (λ (x : SubRead). x.next) read)
          ∙ l.invariant.2,
    )

pub returns : goal.returns
unfolding area_line_within subs_within subs_from
returns c =
    let l = c.loop-i in
    let counted = c in
    let amounts = counted in
    read_all (area_begun amounts.read_years-years.result amounts.read_amounts-amounts.result) l.area _ l.next _ l.invariant.1 (items_done _ _ _ l.i l.area.subs l.next c.loop-i-test.false ∙ l.invariant.2)
    ∙ simp (
      counted.number-count.ensures.value,
      amounts.read_amounts-amounts.ensures,
      amounts.read_years-years.ensures,
      amounts.line-start.ensures,
    )
