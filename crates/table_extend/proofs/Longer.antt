-- The longer table as it is stored: the table that stands with the column's length entered, then the column's cells.
use Rattle.std.specs.Prelude.{Ok}
use Rattle.laws.proofs.{ℕ, ◌+◌, ◌<◌, ◌≤◌, ◌≡◌, sym, ap, ◌∙◌, true, List, ◌++◌, append_assoc, arith, length, set, take, drop, length-set, length-take, length-append, take-append-drop, sets, leb-true, leb-false, ltb-false, not-false}
use lib.Seq.{set-append_left}
use Rattle.laws.proofs.Lists.{and_left}
use Rattle.laws.proofs.Stores.{stored-behind}
use Rattle.refusals.specs.{weigh_all, smallest, Refusal}
use Rattle.refusals.proofs.Laws.{clear_before, clear_last}
use Rattle.table.specs.{has_columns}
use Rattle.table_extend.specs.{longer, extensible}

module _ (table : List ℕ) (column : ℕ) (cells : List ℕ) (h : column < 10) (whole : 10 ≤ length table) where
  longer_is : longer table column cells ≡ set table column (length cells) ++ cells
  unfolding longer
  longer_is =
      sym (append_assoc (set (take 10 table) column (length cells)) (drop 10 table) cells)
      ∙ ap (λ (l : List ℕ). l ++ cells)
      (sym (set-append_left (take 10 table) (drop 10 table) column (length cells) (simp length-take (omega arith)))
      ∙ ap (λ (l : List ℕ). set l column (length cells)) (take-append-drop 10 table))

  pub longer-length : length (longer table column cells) ≡ length table + length cells
  longer-length = rw longer_is (simp (length-append, length-set))

  pub longer-stored : (numbers : List ℕ) → length table + length cells ≤ length numbers
      → sets (set (table ++ drop (length table) numbers) column (length cells)) (length table) cells
      ≡ longer table column cells ++ drop (length (longer table column cells)) numbers
  longer-stored numbers room =
      rw (longer-length, longer_is, set-append_left table (drop (length table) numbers) column (length cells) (omega arith))
      (stored-behind (set table column (length cells)) cells numbers (length table) (length-set table column (length cells)) room)

-- a table has its ten lengths
columns_ten : (table : List ℕ) → has_columns table ≡ true → 10 ≤ length table
unfolding has_columns
columns_ten table e = leb-true _ _ (and_left _ _ (and_left _ _ (and_left _ _ e)))

-- what a clear verdict says
pub record Extensible (table : List ℕ) (column : ℕ) (cells : List ℕ) (room : ℕ) : Type 0 where
  pub whole : 10 ≤ length table
  pub in_range : column < 10
  pub short : length cells ≤ 101
  pub room_for : length table + length cells ≤ room

pub clear_extensible : (table : List ℕ) (column : ℕ) (cells : List ℕ) (room : ℕ) → extensible table column cells room ≡ Ok tt → Extensible table column cells room
unfolding extensible smallest weigh_all
clear_extensible table column cells room e =
    let six = clear_before _ _ Refusal.OutputShort e in
    let five = clear_before _ _ Refusal.TableColumn six in
    let four = clear_before _ _ Refusal.TableColumn five in
    let three = clear_before _ _ Refusal.TableColumn four in
    let two = clear_before _ _ Refusal.TableColumn three in
    let one = clear_before _ _ Refusal.TableColumn two in
    record {
      whole = columns_ten table (not-false _ (clear_last (Ok tt) _ Refusal.TableColumn one));
      in_range = leb-false _ _ (clear_last _ _ Refusal.TableColumn two);
      short = ltb-false _ _ (clear_last _ _ Refusal.TableColumn four);
      room_for = ltb-false _ _ (clear_last _ _ Refusal.OutputShort e);
    }
