-- No two rows of the ledger bear the same number, as for entries alone; so each row is the one under its number, and demand 3 holds for each.
use Rattle.laws.proofs.{ℕ, Bool, true, ◌≡◌, ap, ◌∙◌, List}
use mathlib.Core.List.{Memᴰ}
use mathlib.Core.Option.{some}
use Rattle.laws.specs.{distinct}
use Rattle.line_entry.specs.{AreaAct}
use Rattle.holding.specs.{empty_holding}
use Rattle.theorem_ledger.specs.{Row, row_number, ledger_of}
use Rattle.theorem_keeping.proofs.Keeping.{empty_kept}
use Rattle.theorem_accounts.proofs.Distinct.{listed-under}
use Rattle.theorem_accounts.proofs.Rows as Entries
use Rattle.theorem_demand_three.specs.{Step, ledger_after, row_for}
use Rattle.theorem_demand_three.proofs.ReadBacks.{entries_of, same-alone}

module _ (own : List ℕ) (steps : List Step) where
  pub rows_distinct : distinct row_number (ledger_after own steps) ≡ true
  rows_distinct =
      ap (λ (f : List (AreaAct × Bool)). distinct row_number (ledger_of own f)) (same-alone own empty_holding steps empty_kept).fed_is
      ∙ Entries.rows_distinct own (entries_of steps)

  pub each_row : (row : Row) → Memᴰ row (ledger_after own steps) → row_for own steps row.number ≡ some row
  each_row row listed = listed-under row_number row (ledger_after own steps) rows_distinct listed
