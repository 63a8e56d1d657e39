-- Only an accepted T line changes the program's table: where no line is one, the table that serves in the end is the one that was lent in the beginning.
use Rattle.laws.proofs.{ℕ, ◌≡◌, refl, ap, ◌∙◌, Bool, true, false, not, List, [], ◌∷◌, length, take, not-true}
use lib.IntN.{ℤ, pos, negsuc}
use Rattle.laws.specs.{every}
use Rattle.laws.proofs.Lists.{and_left, and_right}
use Rattle.call_answer.specs.{call_answer, call_output}
use Rattle.call_book.specs.{Caller, is_column_line, taken, answered, after_call, caller_after}

call_leaves : (caller : Caller) (line : List ℕ) → is_column_line line ≡ false → (after_call caller line).table ≡ caller.table
unfolding after_call
call_leaves caller line e = go (call_answer caller.statement caller.table line (length caller.out))
  where
    out : List ℕ
    out = call_output caller.statement caller.table line caller.out

    go : (answer : ℤ) → (answered caller line out answer).table ≡ caller.table
    go (pos n) = ap (λ (t : Bool). (taken caller t out (take n out)).table) e
    go (negsuc n) = refl

pub table_stays : (caller : Caller) (lines : List (List ℕ)) → every (λ (line : List ℕ). not (is_column_line line)) lines ≡ true
    → (caller_after caller lines).table ≡ caller.table
unfolding caller_after every
table_stays caller [] e = refl
table_stays caller (line ∷ lines) e =
    let others = every (λ (l : List ℕ). not (is_column_line l)) lines in
    table_stays (after_call caller line) lines (and_right (not (is_column_line line)) others e)
    ∙ call_leaves caller line (not-true (is_column_line line) (and_left (not (is_column_line line)) others e))
