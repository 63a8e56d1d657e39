-- `statement_judge::area` meets its contract, which joins the same tests. The loop's invariant: what is kept so far and from here on makes the whole, and
-- the numbers of the first i sub-areas stand at the front.
use Rattle.laws.proofs.{◌&&◌, ◌≡◌, length, take, drop, map}
use Rattle.laws.specs.{every}
use Rattle.holding.specs.{Sub, most_subs}
use Rattle.statement_carried.specs.{fields_carried, sub_carried}
use Rattle.statement_judge.proofs.area.Given as goal

abbrev pub invariant-loop-i : goal.invariant-loop-i
invariant-loop-i l =
    let area = l.fn.area in
    ((l.kept && every (sub_carried area) (drop l.i l.subs)) ≡ (fields_carried area && every (sub_carried area) l.subs))
    × (length l.borne ≡ most_subs) × (take l.i l.borne ≡ map (λ (x : Sub). x.number) (take l.i l.subs))
