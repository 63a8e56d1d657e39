-- What an import writes at most: each row keeps a holding that is kept, so that the new statement is no longer than its fields' widths.
use Rattle.std.specs.Prelude.{Ok, Err}
use Rattle.laws.proofs.{ℕ, ◌≤◌, true, ◌≡◌, List, [], ◌∷◌, length}
use Rattle.refusals.specs.{Verdict}
use Rattle.refusals.proofs.Laws.{both_clear}
use Rattle.refusals.proofs.Smaller.{smaller_clear}
use Rattle.table.specs.{is_table}
use Rattle.table_bytes.specs.{numbers_of}
use Rattle.holding.specs.{Holding}
use Rattle.step_outcome.specs.{placed}
use Rattle.statement_format.specs.{carried_width}
use Rattle.statement_carried.specs.{limits}
use Rattle.statement.specs.{read_of}
use Rattle.theorem_keeping.specs.{Kept}
use Rattle.theorem_round_trips.proofs.Trips.{read_kept}
use Rattle.book_room.proofs.Runs.{line_keeps}
use Rattle.sheet_read.specs.{Row}
use Rattle.sheet_judge.specs.{sheet_verdict}
use Rattle.sheet_import.specs.{Imported, row_line, row_taken, sheet_rows, imported_if, import_rows, import_onto, onto_bytes}
use Rattle.call_answer.specs.{table_verdict}
use Rattle.call_import.specs.{weighed_under, import_verdict, import_bytes}
use Rattle.call_book.proofs.Lengths.{statement-few}
use Rattle.call_book.proofs.Bound.{table_is}

module _ (own : List ℕ) (is_own : is_table own ≡ true) (given : Holding) (kept : Kept given) where
  either_kept : (v : Verdict) (imported : Imported) → Kept imported.holding → Kept (imported_if v given imported).holding
  either_kept (Ok _) imported k = k
  either_kept (Err refusal) imported k = kept

  rows_keep : (holding : Holding) → Kept holding → (rows : List Row) → Kept (import_rows own given holding rows).holding
  unfolding import_rows
  rows_keep holding k [] = k
  rows_keep holding k (row ∷ rows) =
      let outcome = row_taken own holding row in
      either_kept outcome.verdict (import_rows own given (placed holding outcome) rows)
      (rows_keep (placed holding outcome) (line_keeps own is_own holding k (row_line row)) rows)

  pub import_keeps : (sheet : List ℕ) → Kept (import_onto own given sheet).holding
  unfolding import_onto
  import_keeps sheet = either_kept (sheet_verdict sheet) (import_rows own given given (sheet_rows sheet)) (rows_keep given kept (sheet_rows sheet))

pub import_few : (statement table sheet : List ℕ) → import_verdict statement table sheet ≡ Ok tt → length (import_bytes statement table sheet) ≤ carried_width
unfolding weighed_under import_bytes onto_bytes
import_few statement table sheet clear =
    let parts = smaller_clear (table_verdict table) (read_of statement).verdict (both_clear _ _ clear).0 in
    statement-few _ (import_keeps (numbers_of table) (table_is table parts.0) (read_of statement).holding (read_kept limits statement parts.1) sheet)
