-- Cells that nothing refuses extend the table.
use Rattle.std.specs.Prelude.{Ok}
use Rattle.laws.proofs.{ℕ, ◌≡◌, List, leb}
use Rattle.refusals.specs.{Refusal, Verdict}
use Rattle.refusals.proofs.Laws.{clear_before}
use Rattle.refusals.proofs.Smaller.{smaller_clear}
use Rattle.table.specs.{longest_table}
use Rattle.table_extend.specs.{begun, extensible}
use Rattle.statement.specs.{read_of}
use Rattle.call_column.specs.{cells_verdict}

pub cells-extend : (own statement : List ℕ) (column : ℕ) (cells : List ℕ) → cells_verdict own statement column cells ≡ Ok tt
    → extensible (begun own) column cells longest_table ≡ Ok tt
unfolding cells_verdict
cells-extend own statement column cells clear =
    clear_before _ (leb 1 (read_of statement).holding.count) Refusal.TableAfterArea (smaller_clear (read_of statement).verdict _ clear).1
