-- What is no table is refused where it would be extended: it is not empty, and does not have its columns.
use Rattle.std.specs.Prelude.{Err}
use Rattle.laws.proofs.{ℕ, Bool, true, false, cond, ◌||◌, ◌≡◌, List, arith, eqb, length, replicate}
use Rattle.refusals.specs.{Refusal, weighed, weigh_all, smallest}
use Rattle.table_parts.specs.{column_count}
use Rattle.table.specs.{has_columns, is_table}
use Rattle.table_extend.specs.{begun, extensible}

module _ (column : ℕ) (cells : List ℕ) (room : ℕ) where
  lacks : (table : List ℕ) → has_columns table ≡ false → extensible table column cells room ≡ Err Refusal.TableColumn
  unfolding extensible smallest weigh_all weighed
  lacks table e = rw e

  pub no_table_extends : (own : List ℕ) → is_table own ≡ false → extensible (begun own) column cells room ≡ Err Refusal.TableColumn
  unfolding is_table begun
  no_table_extends own e = go (eqb (length own) 0) e
    where
      go : (none : Bool) → (none || has_columns own) ≡ false
          → extensible (cond none (replicate column_count 0) own) column cells room ≡ Err Refusal.TableColumn
      go true e = let z : ◌≡◌ {A = ℕ} 0 1 = cc in absurd (omega arith)
      go false e = lacks own e
