-- `engine::carbon_account_line` meets its contract: the answer is the call's, with its sign, and the output the call's.
use Rattle.std.specs.Prelude.{Ok}
use Rattle.laws.proofs.{ℕ, ◌<◌, ◌^◌, ◌≡◌, List, arith, length}
use Rattle.refusals.specs.{Verdict}
use Rattle.call_answer.specs.{call_verdict, call_bytes, call_weighed, call_answer}
use Rattle.call_book.proofs.Bound.{call_few}
use Rattle.engine.proofs.Answers.{answer_fits, answer_is_lem}
use Rattle.engine.proofs.carbon_account_line.Goals as goal

few : (statement table line : List ℕ) → call_verdict statement table line ≡ Ok tt → length (call_bytes statement table line) < 2 ^ 63
few statement table line clear = omega (arith, call_few statement table line clear)

pub answered-requires : goal.answered-requires
unfolding call_weighed
answered-requires c = answer_fits _ _ _ (few _ _ _) _ c.call-answer.ensures.value

pub returns : goal.returns
unfolding call_weighed call_answer
returns c =
    let call = c.call-answer.ensures in
    record { value = answer_is_lem _ _ _ (few _ _ _) _ call.value _ c.answered.ensures; out_after = call.out_after }
