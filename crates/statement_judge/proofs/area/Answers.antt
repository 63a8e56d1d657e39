-- `statement_judge::area` meets its contract, which joins the same tests. The loop's invariant: what is kept so far and from here on makes the whole, and
-- the numbers of the first i sub-areas stand at the front.
use Rattle.std.proofs.lemmas.List.{length-take}
use Rattle.laws.proofs.{◌&&◌, ◌≤◌, ◌≡◌, refl, ap, ◌∙◌, arith, length, length-set, take_all, rules}
use Rattle.laws.specs.{every, all_of, distinct}
use Rattle.laws.proofs.Standing.{as_long}
use Rattle.holding.specs.{Sub, subs_of, most_subs}
use Rattle.holding.proofs.Items.{every_end, every_more}
use Rattle.statement_carried.specs.{fields_carried, sub_carried, area_within}
use Rattle.statement_distinct.proofs.Borne.{borne_more, standing_borne}
use Rattle.statement_judge.proofs.area.Goals as goal

pub loop-i-init : goal.loop-i-init
loop-i-init c = (simp c.fields-kept.ensures, refl, refl)

pub loop-i-preserved : goal.loop-i-preserved
loop-i-preserved c =
    let l = c.loop-i in
    let a = c.args.area in
    let subs = c.standing-subs.result.now in
    let long : length a.subs ≡ most_subs = search (rules, as_long) in
    let few : length subs ≤ most_subs = omega (arith, ap length c.standing-subs.ensures, length-take a.count a.subs) in (
      every_more (sub_carried a) subs l.i l.kept _ l.invariant.0 _ _ c.loop-i-test.true (c.sub-kept.ensures a refl refl),
      simp length-set l.invariant.1,
      borne_more (λ (x : Sub). x.number) subs l.borne _ l.i c.loop-i-test.true (omega arith) l.invariant.2,
    )

pub returns : goal.returns
unfolding area_within all_of
returns c =
    let l = c.loop-i in
    let a = c.args.area in
    let subs = c.standing-subs.result.now in
    let kept : l.kept ≡ (fields_carried a && every (sub_carried a) (subs_of a)) =
    every_end (sub_carried a) subs l.i l.kept _ l.invariant.0 c.loop-i-test.false ∙ ap (λ x. fields_carried a && every (sub_carried a) x) c.standing-subs.ensures in
    let apart : c.numbers.result ≡ distinct (λ (x : Sub). x.number) (subs_of a) =
    c.numbers.ensures
    ∙ standing_borne (λ (x : Sub). x.number) subs l.borne l.i l.i (length subs) (omega arith) (omega arith) l.invariant.2
    ∙ ap (distinct (λ (x : Sub). x.number)) (take_all l.i subs c.loop-i-test.false ∙ c.standing-subs.ensures) in
    simp (kept, apart)
