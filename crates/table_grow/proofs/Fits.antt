-- The longer table, for those who lend it on: a line that is not refused is a T line, and the table has room for its column.
use Rattle.std.specs.Prelude.{Ok}
use Rattle.laws.proofs.{ℕ, ◌≤◌, ◌≡◌, List, arith, length}
use Rattle.refusals.specs.{Refusal}
use Rattle.refusals.proofs.Laws.{clear_before, both_clear}
use Rattle.table.specs.{longest_table}
use Rattle.line.specs.{as_column}
use Rattle.table_extend.specs.{begun, extensible}
use Rattle.table_extend.proofs.Longer.{longer-length, clear_extensible}
use Rattle.table_grow.specs.{line_column, line_cells, longer_by, growable}

module _ (own : List ℕ) (areas : ℕ) (line : List ℕ) (clear : growable own areas line ≡ Ok tt) where
  -- the line is a T line, and its column extends the table
  pub grown_extensible : (as_column line ≡ Ok tt) × (extensible (begun own) (line_column line) (line_cells line) longest_table ≡ Ok tt)
  unfolding growable
  grown_extensible = both_clear (as_column line) _ (clear_before _ _ Refusal.TableAfterArea clear)

  pub longer-fits : length (longer_by own line) ≤ longest_table
  unfolding growable longer_by
  longer-fits =
      let e = clear_extensible (begun own) (line_column line) (line_cells line) longest_table grown_extensible.1 in
      omega (arith, longer-length (begun own) (line_column line) (line_cells line) e.in_range e.whole, e.room_for)
