-- One turn of the fold: a line prints its own, one more is accepted or refused, and the lines behind it follow.
use Rattle.std.specs.Prelude.{Ok, Err}
use Rattle.laws.proofs.{ℕ, suc, ◌+◌, ◌-◌, ◌≤◌, ◌<◌, ◌≡◌, refl, sym, ap, ◌∙◌, List, [], ◌∷◌, ◌++◌, append_assoc, arith, length, take, drop, lt-ltb, le-ltb}
use Rattle.text.specs.{line_end, width_to}
use Rattle.refusals.specs.{Verdict}
use Rattle.book_listing.specs.{lines_of, line_taken, if_accepted, Run, start, next, printed, run_from, printed_from, closing, list_from, longest_book, refused_book, listing_of}
use Rattle.book_listing.proofs.Lines.{lines_at}

pub start_none : start.accepted + start.refused ≡ 0
unfolding start
start_none = refl

one_counted : (v : Verdict) (a r : ℕ) → if_accepted v (a + 1) a + if_accepted v r (r + 1) ≡ a + r + 1
one_counted (Ok _) a r = omega arith
one_counted (Err refusal) a r = omega arith

-- a line is accepted or refused
pub next_counts : (run : Run) (line : List ℕ) → (next run line).accepted + (next run line).refused ≡ run.accepted + run.refused + 1
unfolding next
next_counts run line = one_counted (line_taken run.own run.holding line).verdict run.accepted run.refused

-- a line more in front of a listing
pub list_line : (run : Run) (line : List ℕ) (lines : List (List ℕ)) → list_from run (line ∷ lines) ≡ printed run line ++ list_from (next run line) lines
unfolding list_from printed_from run_from
list_line run line lines = append_assoc (printed run line) (printed_from (next run line) lines) (closing (run_from (next run line) lines))

pub list_none : (run : Run) → list_from run [] ≡ closing run
unfolding list_from printed_from run_from
list_none run = refl

-- the lines from a place on, so many at most: a line, and those that follow
module _ (book : List ℕ) (i end most : ℕ) (h : i < length book) (m : 0 < most) (e : end ≡ i + width_to line_end (drop i book)) where
  -- the first line, in front of one fewer
  first : lines_of (drop i book) ≡ take (end - i) (drop i book) ∷ lines_of (drop (end + 1) book)
  first = lines_at book i end h e

  some : suc (most - 1) ≡ most
  some = omega arith

  pub lines_taken : take (end - i) (drop i book) ∷ take (most - 1) (lines_of (drop (end + 1) book)) ≡ take most (lines_of (drop i book))
  lines_taken = ap (λ (n : ℕ). take n (take (end - i) (drop i book) ∷ lines_of (drop (end + 1) book))) some ∙ ap (take most) (sym first)

  pub left_line : drop (most - 1) (lines_of (drop (end + 1) book)) ≡ drop most (lines_of (drop i book))
  left_line = ap (λ (n : ℕ). drop n (take (end - i) (drop i book) ∷ lines_of (drop (end + 1) book))) some ∙ ap (drop most) (sym first)

  module _ (run after : Run) (q : after ≡ next run (take (end - i) (drop i book))) where
    pub run_line : run_from after (take (most - 1) (lines_of (drop (end + 1) book))) ≡ run_from run (take most (lines_of (drop i book)))
    unfolding run_from
    run_line = ap (λ (r : Run). run_from r (take (most - 1) (lines_of (drop (end + 1) book)))) q ∙ ap (run_from run) lines_taken

-- where no line is left
module _ (run : Run) (lines : List (List ℕ)) (h : lines ≡ []) where
  pub run_none : run ≡ run_from run lines
  unfolding run_from
  run_none = sym (ap (run_from run) h)

pub listing_over : (book : List ℕ) → longest_book < length book → refused_book ≡ listing_of book
unfolding listing_of
listing_over book h = simp (lt-ltb _ _ h)

pub listing_lines : (book : List ℕ) → length book ≤ longest_book → list_from start (lines_of book) ≡ listing_of book
unfolding listing_of
listing_lines book h = simp (le-ltb _ _ h)
