-- `statement_distinct::areas` meets its contract: the numbers looked at are those of the areas that stand.
use Rattle.laws.proofs.{◌≡◌, ap, ◌∙◌, refl, arith, length, take, rules}
use Rattle.laws.proofs.Standing.{as_long, take-map}
use Rattle.holding.specs.{Area, most_areas}
use Rattle.statement_distinct.proofs.Borne.{standing_borne}
use Rattle.statement_distinct.proofs.areas.Goals as goal

pub returns : goal.returns
returns c =
    let areas = c.args.holding.areas in
    let n = c.min.result in
    let long : length areas ≡ most_areas = search (rules, as_long) in
    c.numbers.ensures
    ∙ standing_borne (λ (x : Area). x.number) areas _ c.args.holding.count n n (omega (arith, c.min.ensures, long)) refl
    (ap (take n) c.numbers_of-held.ensures ∙ take-map (λ (x : Area). x.number) n areas)
