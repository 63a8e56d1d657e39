-- A turn of the loop is a turn of the fold: the code's table, holding and counts after a line are those of the run that follows.
use Rattle.std.specs.Prelude.{Ok, Err, Option}
use Rattle.laws.proofs.{ℕ, ◌+◌, ◌-◌, ◌≡◌, ap, ◌∙◌, List, arith, take}
use Rattle.refusals.specs.{Verdict}
use Rattle.schedules.specs.{schedule6}
use Rattle.line_entry.specs.{Parsed}
use Rattle.line.specs.{entry_of}
use Rattle.holding.specs.{Area, Holding, numbers_in}
use Rattle.holding_look.specs.{Looked, area_at}
use Rattle.step_outcome.specs.{Outcome, placed}
use Rattle.book_listing.specs.{parsed_taken, line_taken, parsed_table, if_accepted, table_after, Run, next, printed_for, printed}
use Rattle.book_find.specs.{Named, named_by}
use Rattle.book_find.proofs.Naming.{looked_for, looked_for_lem}
use Rattle.book_column.specs.{Fronts}
use Rattle.book_export.specs.{exported_for, exported_row}
use Rattle.book_run.specs.{parsed_outcome}
use Rattle.book_run.proofs.Turns.{turn_taken}

one_or_none : (v : Verdict) (a r : ℕ) → (a + if_accepted v 1 0 ≡ if_accepted v (a + 1) a) × (r + (1 - if_accepted v 1 0) ≡ if_accepted v r (r + 1))
one_or_none (Ok _) a r = omega arith
one_or_none (Err refusal) a r = omega arith

-- a line taken on the area that was looked up, with the run's own table and the cells of Schedule 6
module _ (run : Run) (area_numbers : List ℕ) (i : area_numbers ≡ numbers_in run.holding.areas) (line default : List ℕ) (parsed : Parsed) (names : Named) (found : Option ℕ) (area : Area) (outcome : Outcome)
    (t : outcome ≡ parsed_outcome run.own default (record { number = names.number; count = run.holding.count; found = found; area = area }) line parsed)
    (p : parsed ≡ entry_of line) (n : names ≡ named_by (take run.holding.count area_numbers) parsed) (f : found ≡ names.found) (a : area ≡ area_at run.holding found)
    (d : default ≡ schedule6) where
  outcome_is : outcome ≡ line_taken run.own run.holding line
  unfolding line_taken
  outcome_is =
      t
      ∙ ap (λ (x : Looked). parsed_outcome run.own default x line parsed) (looked_for_lem run.holding area_numbers parsed names found area n f a)
      ∙ ap (λ (l : List ℕ). parsed_outcome run.own l (looked_for run.holding area_numbers parsed) line parsed) d
      ∙ turn_taken run.own run.holding area_numbers i line parsed
      ∙ ap (parsed_taken run.own run.holding line) p

  pub turn_prints : printed_for (run.accepted + run.refused + 1) outcome.verdict outcome ≡ printed run line
  unfolding printed
  turn_prints = ap (λ (o : Outcome). printed_for (run.accepted + run.refused + 1) o.verdict o) outcome_is

  pub turn_exports : exported_for outcome.verdict parsed line ≡ exported_row run line
  unfolding exported_row
  turn_exports =
      ap (λ (o : Outcome). exported_for o.verdict parsed line) outcome_is
      ∙ ap (λ (x : Parsed). exported_for (line_taken run.own run.holding line).verdict x line) p

  pub turn_runs : (numbers : List ℕ) (count : ℕ) → Fronts numbers count (if_accepted outcome.verdict (parsed_table run.own line parsed) run.own)
      → (holding : Holding) (accepted refused taken : ℕ)
      → holding ≡ placed run.holding outcome → taken ≡ if_accepted outcome.verdict 1 0
      → accepted ≡ run.accepted + taken → refused ≡ run.refused + (1 - taken)
      → record { own = take count numbers; holding = holding; accepted = accepted; refused = refused } ≡ next run line
  unfolding next table_after
  turn_runs numbers count leaves holding accepted refused taken h k a r =
      let v = outcome.verdict in
      let w : v ≡ (line_taken run.own run.holding line).verdict = ap (λ (x : Outcome). x.verdict) outcome_is in
      let grown : take count numbers ≡ table_after run.own run.holding line =
      leaves.front
      ∙ ap (λ (x : Verdict). if_accepted x (parsed_table run.own line parsed) run.own) w
      ∙ ap (λ (x : Parsed). if_accepted (line_taken run.own run.holding line).verdict (parsed_table run.own line x) run.own) p in
      let stands : holding ≡ placed run.holding (line_taken run.own run.holding line) = h ∙ ap (placed run.holding) outcome_is in
      let counts = one_or_none v run.accepted run.refused in
      let more : accepted ≡ if_accepted (line_taken run.own run.holding line).verdict (run.accepted + 1) run.accepted =
      a
      ∙ ap (λ (n : ℕ). run.accepted + n) k
      ∙ counts.0
      ∙ ap (λ (x : Verdict). if_accepted x (run.accepted + 1) run.accepted) w in
      let less : refused ≡ if_accepted (line_taken run.own run.holding line).verdict run.refused (run.refused + 1) =
      r
      ∙ ap (λ (n : ℕ). run.refused + (1 - n)) k
      ∙ counts.1
      ∙ ap (λ (x : Verdict). if_accepted x run.refused (run.refused + 1)) w in
      simp (grown, stands, more, less)
