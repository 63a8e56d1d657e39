-- A line's turn, one law for each way out: what was read decides, and all but an accepted T line leave the table. A turn is that of the fold.
use Rattle.std.specs.Prelude.{Ok, Err}
use Rattle.laws.proofs.{ℕ, ◌-◌, ◌≤◌, ◌≡◌, refl, sym, ap, subst, ◌∙◌, List, length, take}
use native.Mathlib.Nat.{sub-zero}
use Rattle.refusals.specs.{Refusal, Verdict}
use Rattle.schedules.specs.{schedule6}
use Rattle.table.specs.{longest_table}
use Rattle.line_entry.specs.{AreaAct, Entry, Parsed}
use Rattle.holding.specs.{Holding, numbers_in}
use Rattle.holding_look.specs.{Looked}
use Rattle.step_outcome.specs.{Outcome, turned_back, answered}
use Rattle.step_outcome.proofs.Laws.{answered-verdict}
use Rattle.step.specs.{acted, applied}
use Rattle.table_grow.specs.{growable}
use Rattle.book_listing.specs.{column_taken, entry_taken, parsed_taken}
use Rattle.book_find.proofs.Naming.{looked_for, looked_up_lem}
use Rattle.book_column.specs.{column_numbers, column_count}
use Rattle.book_column.proofs.Fronts.{stays, column_leaves}
use Rattle.book_run.specs.{refusal_in, parsed_outcome, Turn}

module _ (numbers : List ℕ) (count : ℕ) (fits : count ≤ longest_table) (long : length numbers ≡ longest_table) (default : List ℕ) (looked : Looked) (line : List ℕ) (parsed : Parsed) (outcome : Outcome) where
  abbrev own : List ℕ
  own = take count numbers

  abbrev TurnAs : Parsed → List ℕ → ℕ → Type 0
  TurnAs read after left = Turn own default looked line read outcome after left

  pub line_refused : (r refusal : Refusal) → parsed ≡ Err r → refusal ≡ refusal_in parsed → outcome ≡ turned_back refusal → TurnAs parsed numbers count
  unfolding parsed_outcome
  line_refused r refusal e q o =
      subst (λ (x : Parsed). TurnAs x numbers count) (sym e)
      (record { comes = o ∙ ap turned_back (q ∙ ap refusal_in e); leaves = stays numbers count fits long outcome.verdict })

  pub line_column_lem : (entry : Entry) (column : ℕ) (verdict : Verdict) (after : List ℕ) (left : ℕ) → parsed ≡ Ok entry → entry ≡ Entry.Column column
      → outcome ≡ answered verdict (column_taken looked.count) → verdict ≡ growable own looked.count line
      → after ≡ column_numbers numbers count looked.count line → left ≡ column_count numbers count looked.count line → TurnAs parsed after left
  unfolding parsed_outcome
  line_column_lem entry column verdict after left e k o v a l =
      let comes = o ∙ ap (λ (x : Verdict). answered x (column_taken looked.count)) v in
      let told = ap (λ (x : Outcome). x.verdict) comes ∙ answered-verdict (growable own looked.count line) (column_taken looked.count) refl in
      subst (λ (x : Parsed). TurnAs x after left) (sym (e ∙ ap Ok k))
      (record { comes = comes; leaves = rw (told, a, l) (column_leaves numbers count fits long looked.count line) })

  pub line_act : (entry : Entry) (on : AreaAct) → parsed ≡ Ok entry → entry ≡ Entry.On on
      → outcome ≡ acted (take (count - 0) numbers) default looked on.act → TurnAs parsed numbers count
  unfolding parsed_outcome
  line_act entry on e k o =
      subst (λ (x : Parsed). TurnAs x numbers count) (sym (e ∙ ap Ok k))
      (record {
        comes = o ∙ ap (λ (n : ℕ). acted (take n numbers) default looked on.act) (sub-zero count);
        leaves = stays numbers count fits long outcome.verdict;
      })

-- ---- a turn of the fold

module _ (own : List ℕ) (holding : Holding) (numbers : List ℕ) (n : numbers ≡ numbers_in holding.areas) (line : List ℕ) where
  pub turn_taken : (parsed : Parsed) → parsed_outcome own schedule6 (looked_for holding numbers parsed) line parsed ≡ parsed_taken own holding line parsed
  unfolding parsed_outcome parsed_taken entry_taken applied
  turn_taken (Ok (Entry.Column column)) = refl
  turn_taken (Ok (Entry.On on)) = ap (λ (x : Looked). acted own schedule6 x on.act) (looked_up_lem holding numbers n on)
  turn_taken (Err refusal) = refl
