-- `engine::carbon_foot` meets its contract: the answer is the foot's, with its sign, and the output the foot's.
use Rattle.std.specs.Prelude.{Ok}
use Rattle.laws.proofs.{ℕ, ◌<◌, ◌^◌, ◌≡◌, List, arith, length}
use Rattle.refusals.specs.{Verdict}
use Rattle.statement.specs.{read_of}
use Rattle.call_foot.specs.{foot_bytes, foot_weighed, foot_answer, foot_output}
use Rattle.call_foot.proofs.Written.{foot_at_most}
use Rattle.engine.proofs.Answers.{answer_fits, answer_is_lem}
use Rattle.engine.proofs.carbon_foot.Goals as goal

few : (statement : List ℕ) → (read_of statement).verdict ≡ Ok tt → length (foot_bytes statement) < 2 ^ 63
few statement clear = omega (arith, foot_at_most statement clear)

pub answered-requires : goal.answered-requires
answered-requires c = answer_fits _ _ _ (few _) _ c.foot-answer.ensures.told

pub returns : goal.returns
unfolding foot_weighed foot_answer foot_output
returns c =
    let foot = c.foot-answer.ensures in
    record { value = answer_is_lem _ _ _ (few _) _ foot.told _ c.answered.ensures; out_after = foot.left }
