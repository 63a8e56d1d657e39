-- A listing has at most 11 bytes for each byte of its book and one more, 44 for the foot and 14 for E: a line prints at most 11 bytes for each of its own and its end,
-- since a refusal takes no more than 11 and the lines that print more are as much longer themselves.
use Rattle.std.specs.Prelude.{Ok, Err}
use Rattle.laws.proofs.{ℕ, ◌+◌, ◌*◌, ◌≤◌, ◌<◌, ap, List, [], ◌∷◌, ⊎_elim, arith, length, length-append}
use Rattle.laws.specs.{sum_by}
use Rattle.laws.proofs.Order.{below_or_not}
use Rattle.refusals.specs.{Verdict, Refusal}
use Rattle.step_outcome.specs.{Outcome}
use Rattle.book_print.specs.{report_text, refusal_text, end_text}
use Rattle.book_print.proofs.Lengths.{refusal-few, end_few}
use Rattle.book_foot.specs.{foot_of, most_for_foot}
use Rattle.book_listing.specs.{lines_of, line_taken, Run, start, next, printed_for, printed, list_from, longest_book, refused_book, listing_of}
use Rattle.book_listing.proofs.Folding.{start_none, next_counts, list_line, list_none, listing_over, listing_lines}
use Rattle.book_listing.proofs.Lines.{lines_few, weight, lines_weigh}
use Rattle.book_room.specs.{most_for_byte, most_for_end, room_for_any}
use Rattle.book_room.proofs.Feet.{kept_foot_few}
use Rattle.book_room.proofs.Runs.{line_length, RunKept, start-kept, next-kept}

printed_for_lem : (number m : ℕ) (v : Verdict) (outcome : Outcome) → number < 100000 → most_for_byte ≤ m → length (report_text outcome.report) ≤ m
    → length (printed_for number v outcome) ≤ m
unfolding printed_for
printed_for_lem number m (Ok _) outcome n h l = l
printed_for_lem number m (Err r) outcome n h l = omega (arith, refusal-few 4 number r n)

printed-length : (run : Run) (line : List ℕ) → RunKept run → run.accepted + run.refused + 1 < 100000 → length (printed run line) ≤ most_for_byte * weight line
unfolding printed
printed-length run line k h =
    printed_for_lem (run.accepted + run.refused + 1) (most_for_byte * weight line) _ (line_taken run.own run.holding line) h (omega arith)
    (line_length run.own k.table run.holding k.holding line)

from-length : (run : Run) (lines : List (List ℕ)) → RunKept run → run.accepted + run.refused + length lines ≤ longest_book
    → length (list_from run lines) ≤ most_for_byte * sum_by weight lines + most_for_foot + most_for_end
unfolding sum_by
from-length run [] k h =
    omega (
      arith,
      ap length (list_none run),
      length-append (foot_of run.holding) (end_text run.accepted run.refused),
      kept_foot_few run.holding k.holding,
      end_few 4 4 run.accepted run.refused (omega arith) (omega arith),
    )
from-length run (line ∷ lines) k h =
    let counts = next_counts run line in
    let first = printed-length run line k (omega arith) in
    let rest = from-length (next run line) lines (next-kept run line k) (omega arith) in
    omega (arith, ap length (list_line run line lines), length-append (printed run line) (list_from (next run line) lines))

pub listing_length : (book : List ℕ) → length book ≤ longest_book → length (listing_of book) ≤ most_for_byte * (length book + 1) + most_for_foot + most_for_end
listing_length book h =
    let few = lines_few book in
    omega (
      arith,
      ap length (listing_lines book h),
      from-length start (lines_of book) start-kept (omega (arith, start_none)),
      lines_weigh book,
    )

over-length : length refused_book ≤ 25
over-length =
    omega (
      arith,
      length-append (refusal_text 0 Refusal.Form) (end_text 0 1),
      refusal-few 4 0 Refusal.Form (omega arith),
      end_few 4 4 0 1 (omega arith) (omega arith),
    )

-- there is room for the listing of any book
pub listing_at_most : (book : List ℕ) → length (listing_of book) ≤ room_for_any
listing_at_most book =
    ⊎_elim
    (λ over. omega (arith, ap length (listing_over book over), over-length))
    (λ within. omega (arith, listing_length book within))
    (below_or_not longest_book (length book))
