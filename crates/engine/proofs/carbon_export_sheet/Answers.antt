-- `engine::carbon_export_sheet` meets its contract: the answer is the export's, with its sign, and the output the export's.
use Rattle.std.specs.Prelude.{Ok}
use Rattle.laws.proofs.{ℕ, ◌<◌, ◌^◌, ◌≡◌, List, arith, length}
use Rattle.refusals.specs.{Verdict}
use Rattle.book_export.specs.{export_weighed, export_of}
use Rattle.sheet_export.proofs.Bound.{export_few}
use Rattle.engine.specs.{export_answer, export_output}
use Rattle.engine.proofs.Answers.{answer_fits, answer_is_lem}
use Rattle.engine.proofs.carbon_export_sheet.Goals as goal

few : (book : List ℕ) → export_weighed book ≡ Ok tt → length (export_of book) < 2 ^ 63
few book clear = omega (arith, export_few book clear)

pub answered-requires : goal.answered-requires
answered-requires c =
    let book = c.args.book.now in
    answer_fits (export_weighed book) (export_of book) _ (few book) _ c.export-answer.ensures.told

pub returns : goal.returns
unfolding export_answer export_output
returns c =
    let book = c.args.book.now in
    let export = c.export-answer.ensures in
    record {
      value = answer_is_lem (export_weighed book) (export_of book) _ (few book) _ export.told _ c.answered.ensures;
      out_after = export.left;
    }
