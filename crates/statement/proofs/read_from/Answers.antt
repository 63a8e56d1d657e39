-- `statement::read_from` meets its contract: what was read is tested, and by that the holding is taken or not.
use Rattle.laws.proofs.{ap, ◌∙◌}
use Rattle.statement_parse.specs.{HoldingRead}
use Rattle.statement.specs.{acceptable, read_if, read_within}
use Rattle.statement.proofs.Laws.{taken, refused}
use Rattle.statement.proofs.read_from.Goals as goal

pub returns-then-next-bytes : goal.returns-then-next-bytes
unfolding read_within
returns-then-next-bytes c =
    let s = c.args.bytes.now in
    let read = c.read_holding-found in
    taken s read.result (simp c.holding-kept.ensures at c.if-next-bytes.true)
    ∙ ap (λ (r : HoldingRead). read_if (acceptable s r) r.holding) read.ensures

pub returns : goal.returns
unfolding read_within
returns c =
    let t = c in
    let s = t.args.bytes.now in
    let read = t.read_holding-found in
    refused s read.result _ c.empty_holding-empty.ensures (simp t.holding-kept.ensures at t.if-next-bytes.false)
    ∙ ap (λ (r : HoldingRead). read_if (acceptable s r) r.holding) read.ensures
