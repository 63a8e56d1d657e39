-- The verdict of a call is the smallest of the numbers of its four parts: the smaller of two is one of them, none has a smaller number, and it is
-- clear just when both are.
use Rattle.std.specs.Prelude.{Ok, Err}
use Rattle.laws.proofs.{ℕ, ◌≡◌, sym, subst, List, ◌⊎◌, arith}
use Rattle.refusals.specs.{Refusal, Verdict, number_of}
use Rattle.refusals.proofs.Smaller.{From, from_both, among, smaller_clear}
use Rattle.table_bytes.specs.{numbers_of}
use Rattle.line.specs.{entry_of}
use Rattle.statement.specs.{read_of}
use Rattle.book_listing.specs.{line_taken}
use Rattle.call_answer.specs.{line_verdict, table_verdict, call_verdict}

module _ (statement table line : List ℕ) where
  abbrev line_part : Verdict
  line_part = line_verdict (entry_of line)

  abbrev table-part : Verdict
  table-part = table_verdict table

  abbrev statement-part : Verdict
  statement-part = (read_of statement).verdict

  abbrev state_part : Verdict
  state_part = (line_taken (numbers_of table) (read_of statement).holding line).verdict

  pub call_clear : call_verdict statement table line ≡ Ok tt
      → (line_part ≡ Ok tt) × (table-part ≡ Ok tt) × (statement-part ≡ Ok tt) × (state_part ≡ Ok tt)
  unfolding call_verdict
  call_clear e =
      let one = smaller_clear line_part _ e in
      let two = smaller_clear table-part _ one.1 in
      let three = smaller_clear statement-part state_part two.1 in
      (one.0, two.0, three.0, three.1)

  -- "The smallest number that applies is given": no part has a smaller number
  pub call_smallest : (r : Refusal) → call_verdict statement table line ≡ Err r
      → From (number_of r) line_part × From (number_of r) table-part × From (number_of r) statement-part × From (number_of r) state_part
  unfolding call_verdict
  call_smallest r e =
      let n = number_of r in
      let all = subst (From n) (sym e) (omega arith) in
      let one = from_both n line_part _ all in
      let two = from_both n table-part _ one.1 in
      let three = from_both n statement-part state_part two.1 in
      (one.0, two.0, three.0, three.1)

  -- and one part has this verdict
  pub call_one_of : (v : Verdict) → call_verdict statement table line ≡ v
      → (line_part ≡ v) ⊎ ((table-part ≡ v) ⊎ ((statement-part ≡ v) ⊎ (state_part ≡ v)))
  unfolding call_verdict
  call_one_of v e = among line_part _ v _ (among table-part _ v _ (among statement-part state_part v _ (λ p. p))) e
