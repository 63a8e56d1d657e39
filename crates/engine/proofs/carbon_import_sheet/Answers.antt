-- `engine::carbon_import_sheet` meets its contract: the answer is the import's, with its sign, and the output the import's.
use Rattle.std.specs.Prelude.{Ok}
use Rattle.laws.proofs.{ℕ, ◌<◌, ◌^◌, ◌≡◌, List, arith, length}
use Rattle.refusals.specs.{Verdict}
use Rattle.call_import.specs.{import_verdict, import_bytes, import_weighed, import_answer, import_output}
use Rattle.call_book.proofs.Imports.{import_few}
use Rattle.engine.proofs.Answers.{answer_fits, answer_is_lem}
use Rattle.engine.proofs.carbon_import_sheet.Goals as goal

few : (statement table sheet : List ℕ) → import_verdict statement table sheet ≡ Ok tt → length (import_bytes statement table sheet) < 2 ^ 63
few statement table sheet clear = omega (arith, import_few statement table sheet clear)

pub answered-requires : goal.answered-requires
answered-requires c = answer_fits _ _ _ (few _ _ _) _ c.import_sheet-answer.ensures.told

pub returns : goal.returns
unfolding import_weighed import_answer import_output
returns c =
    let given = c.import_sheet-answer.ensures in
    record { value = answer_is_lem _ _ _ (few _ _ _) _ given.told _ c.answered.ensures; out_after = given.left }
