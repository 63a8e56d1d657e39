-- `text::put_bytes` meets its contract: the bytes that have room are stored one behind the other, and what is left out lies past the end.
use Rattle.laws.proofs.{ℕ, ◌+◌, ap, subst, ◌∙◌, arith, min, length, length-take, set, take}
use Rattle.std.proofs.lemmas.List.{get_or-take}
use Rattle.laws.proofs.Stores.{Storing, storing_none, storing_more, storing_all}
use Rattle.text.proofs.Writes.{room_stored}
use Rattle.text.proofs.put_bytes.Goals as goal

pub loop-i-init : goal.loop-i-init
loop-i-init c = storing_none (take c.min-many.result c.args.bytes.now) c.args.out.now c.args.at

pub loop-i-preserved : goal.loop-i-preserved
loop-i-preserved c =
    let l = c.loop-i in
    let a = c.args in
    let many = c.min-many.result in
    let first = take many a.bytes.now in
    let more = storing_more first a.out.now a.at 0 l.out l.i (omega (arith, length-take many a.bytes.now)) l.invariant in
    subst (λ (b : ℕ). Storing first a.out.now a.at (set l.out (a.at + l.i) b) (l.i + 1)) (get_or-take many a.bytes.now l.i 0 c.loop-i-test.true) more

pub returns : goal.returns
returns c =
    let l = c.loop-i in
    let a = c.args in
    let many = c.min-many.result in
    let stored = storing_all (take many a.bytes.now) a.out.now a.at l.out l.i (omega (arith, length-take many a.bytes.now)) l.invariant in
    record {
      stored = stored ∙ room_stored a.out.now a.at many a.bytes.now (c.min-many.ensures ∙ ap (min (length a.bytes.now)) c.saturating_sub.ensures);
      place = c.saturating_add.ensures;
      lent = omega arith;
    }
