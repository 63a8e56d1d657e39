-- What a call answers and writes. On a statement that is the writer's and a table's own bytes the verdict is the line's own, so that the call
-- answers what `book` finds; where there is room, the bytes stand in front.
use Rattle.std.specs.Prelude.{Ok, Err}
use Rattle.laws.proofs.{ℕ, zero, suc, ◌≤◌, ◌<◌, ◌≡◌, refl, sym, ap, ◌∙◌, Bool, true, cond, List, [], ◌++◌, arith, le-leb, le-ltb, length, take, drop, take-append_seam}
use lib.IntN.{ℤ, pos, negsuc, neg_ℤ}
use Rattle.refusals.specs.{smaller, Refusal, number_of, weighed, buffer_after, Verdict}
use Rattle.refusals.proofs.Laws.{number_range}
use Rattle.table.specs.{is_table}
use Rattle.table_bytes.specs.{numbers_of}
use Rattle.line_entry.specs.{Parsed}
use Rattle.line.specs.{entry_of}
use Rattle.holding.specs.{Holding}
use Rattle.statement_format.specs.{statement_of}
use Rattle.statement.specs.{read_of}
use Rattle.book_listing.specs.{parsed_taken, line_taken}
use Rattle.theorem_keeping.specs.{Kept}
use Rattle.theorem_round_trips.proofs.Trips.{accepts_that}
use Rattle.call_output.specs.{table_bytes, with_room}
use Rattle.call_answer.specs.{line_verdict, table_verdict, call_verdict, parsed_bytes, call_bytes, call_weighed, call_answer, call_output}
use Rattle.call_book.specs.{Caller, is_column_line, report_in, taken, answered, after_call, shown, shown_after}
use Rattle.call_book.proofs.Tables.{numbers_back, table-accepted}

-- ---- by the verdict

module _ (statement table line out : List ℕ) where
  abbrev bytes : List ℕ
  bytes = call_bytes statement table line

  pub answer_refused : (r : Refusal) → call_weighed statement table line (length out) ≡ Err r
      → (call_answer statement table line (length out) ≡ neg_ℤ (pos (number_of r))) × (call_output statement table line out ≡ out)
  unfolding call_answer call_output buffer_after
  answer_refused r w = (rw w, rw w)

  pub answer_accepted : call_weighed statement table line (length out) ≡ Ok tt
      → (call_answer statement table line (length out) ≡ pos (length bytes)) × (call_output statement table line out ≡ bytes ++ drop (length bytes) out)
  unfolding call_answer call_output buffer_after
  answer_accepted w = (rw w, rw w)

  weighed-refused : (r : Refusal) → call_verdict statement table line ≡ Err r → call_weighed statement table line (length out) ≡ Err r
  unfolding call_weighed with_room weighed
  weighed-refused r e = rw e

  weighed-accepted : call_verdict statement table line ≡ Ok tt → length (call_bytes statement table line) ≤ length out
      → call_weighed statement table line (length out) ≡ Ok tt
  unfolding call_weighed with_room weighed
  weighed-accepted e h = simp (e, le-ltb (length out) (length (call_bytes statement table line)) h)

minus_some : (n : ℕ) → 0 < n → (k : ℕ) × (neg_ℤ (pos n) ≡ negsuc k) × (suc k ≡ n)
minus_some zero h = absurd (omega arith)
minus_some (suc k) h = (k, refl, refl)

pub minus_number : (r : Refusal) → (k : ℕ) × (neg_ℤ (pos (number_of r)) ≡ negsuc k) × (suc k ≡ number_of r)
minus_number r = minus_some (number_of r) (number_range r).0

-- ---- on a statement and a table that were written

first_of_two : (own : List ℕ) (holding : Holding) (line : List ℕ) (parsed : Parsed)
    → smaller (line_verdict parsed) (parsed_taken own holding line parsed).verdict ≡ (parsed_taken own holding line parsed).verdict
unfolding parsed_taken
first_of_two own holding line (Ok entry) = refl
first_of_two own holding line (Err r) = simp (le-leb (number_of r) (number_of r) (omega arith))

module _ (own : List ℕ) (holding : Holding) (kept : Kept holding) (is_own : is_table own ≡ true) (statement table line out : List ℕ)
    (written : statement ≡ statement_of holding) (bytes : table ≡ table_bytes own) where
  read_back : read_of statement ≡ record { verdict = (Ok tt); holding = holding }
  read_back = accepts_that statement holding kept (sym written)

  numbers : numbers_of table ≡ own
  numbers = ap numbers_of bytes ∙ numbers_back own

  pub own-verdict : call_verdict statement table line ≡ (line_taken own holding line).verdict
  unfolding call_verdict line_taken
  own-verdict = simp (read_back, numbers, ap table_verdict bytes, table-accepted own is_own) (first_of_two own holding line (entry_of line))

  pub own_bytes : call_bytes statement table line ≡ parsed_bytes own holding line (entry_of line)
  unfolding call_bytes
  own_bytes = rw (numbers, read_back)

  pub refused_call : (r : Refusal) → (line_taken own holding line).verdict ≡ Err r
      → (call_answer statement table line (length out) ≡ neg_ℤ (pos (number_of r))) × (call_output statement table line out ≡ out)
  refused_call r e = answer_refused statement table line out r (weighed-refused statement table line out r (own-verdict ∙ e))

  pub accepted_call : (line_taken own holding line).verdict ≡ Ok tt → length (call_bytes statement table line) ≤ length out
      → (let written = parsed_bytes own holding line (entry_of line) in
      (call_answer statement table line (length out) ≡ pos (length written)) × (call_output statement table line out ≡ written ++ drop (length written) out))
  accepted_call e h = rw (← own_bytes) (answer_accepted statement table line out (weighed-accepted statement table line out (own-verdict ∙ e) h))

-- ---- the program after a call

module _ (caller : Caller) (line : List ℕ) where
  abbrev output_is : List ℕ → Type 0
  output_is out = call_output caller.statement caller.table line caller.out ≡ out

  abbrev answer_is : ℤ → Type 0
  answer_is answer = call_answer caller.statement caller.table line (length caller.out) ≡ answer

  -- by the call's output and answer
  pub by_answer : (out : List ℕ) (answer : ℤ) → output_is out → answer_is answer
      → (after_call caller line ≡ answered caller line out answer) × (shown_after caller line ≡ shown caller line out answer)
  unfolding after_call shown_after
  by_answer out answer p q = (rw (p, q), rw (p, q))

  -- where the call is accepted its bytes stand in front, and all of them are taken
  pub by_written : (written : List ℕ) → output_is (written ++ drop (length written) caller.out) → answer_is (pos (length written))
      → (t : Bool) → is_column_line line ≡ t
      → (after_call caller line ≡ taken caller t (written ++ drop (length written) caller.out) written)
      × (shown_after caller line ≡ cond t [] (report_in written))
  by_written written p q t column =
      let out = written ++ drop (length written) caller.out in
      let after = by_answer out (pos (length written)) p q in
      let front = take-append_seam written (drop (length written) caller.out) in (
        after.0 ∙ ap (λ (b : Bool). taken caller b out (take (length written) out)) column ∙ ap (taken caller t out) front,
        after.1 ∙ ap (λ (b : Bool). cond b [] (report_in (take (length written) out))) column ∙ ap (λ (l : List ℕ). cond t [] (report_in l)) front,
      )
