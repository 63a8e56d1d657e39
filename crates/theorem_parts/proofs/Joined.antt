-- The parts of a listing, one after the other, are the listing: a part and the listing of the lines that it leaves are the listing of the lines from its
-- place on, and the last leaves none.
use Rattle.laws.proofs.{ℕ, zero, suc, ◌≤◌, ◌<◌, ◌≡◌, refl, sym, ap, ◌∙◌, true, false, List, [], ◌∷◌, ◌++◌, append_assoc, append-nil, ⊎_elim, arith, lt-leb, length, take, drop}
use Rattle.laws.specs.{all_of}
use Rattle.laws.proofs.Order.{below_or_not}
use Rattle.book_listing.specs.{lines_of, Run, next, printed, run_from, printed_from, closing, list_from, longest_book, listing_of}
use Rattle.book_listing.proofs.Lines.{lines_at, lines_none}
use Rattle.book_listing.proofs.Folding.{listing_over, listing_lines}
use Rattle.book_reached.specs.{Reached, run_of, nothing_reached, may_run, may_run_from}
use Rattle.book_run.specs.{Part, lines_from}
use Rattle.book_parts.specs.{part_lines, closing_at, part_from, part_of, ComesTo}
use Rattle.book_reached.proofs.Bounds.{begun, may-begin}
use Rattle.theorem_parts.specs.{InParts, joined_parts}

-- ---- so many lines, and those behind them

printed-after : (n : ℕ) (run : Run) (lines : List (List ℕ)) → printed_from run (take n lines) ++ printed_from (run_from run (take n lines)) (drop n lines) ≡ printed_from run lines
unfolding printed_from run_from
printed-after zero run lines = refl
printed-after (suc n) run [] = refl
printed-after (suc n) run (line ∷ lines) =
    append_assoc (printed run line) (printed_from (next run line) (take n lines)) (printed_from (run_from (next run line) (take n lines)) (drop n lines))
    ∙ ap (λ (l : List ℕ). printed run line ++ l) (printed-after n (next run line) lines)

run-after : (n : ℕ) (run : Run) (lines : List (List ℕ)) → run_from (run_from run (take n lines)) (drop n lines) ≡ run_from run lines
unfolding run_from
run-after zero run lines = refl
run-after (suc n) run [] = refl
run-after (suc n) run (line ∷ lines) = run-after n (next run line) lines

-- what is listed from some lines on, where some are left
abbrev listed_from : Run → List (List ℕ) → List ℕ
listed_from run [] = []
listed_from run (line ∷ lines) = list_from run (line ∷ lines)

module _ (run : Run) (lines : List (List ℕ)) where
  abbrev after : Run
  after = run_from run (take part_lines lines)

  -- E stands in the last part, or in what is left
  closed_once : (left : List (List ℕ)) → drop part_lines lines ≡ left → closing_at after left ++ listed_from after left ≡ list_from after left
  unfolding list_from printed_from run_from
  closed_once [] e = append-nil (closing after)
  closed_once (line ∷ left) e = refl

  part_and_left : part_from run lines ++ listed_from after (drop part_lines lines) ≡ list_from run lines
  unfolding part_from list_from
  part_and_left =
      append_assoc (printed_from run (take part_lines lines)) (closing_at after (drop part_lines lines)) (listed_from after (drop part_lines lines))
      ∙ ap (λ (l : List ℕ). printed_from run (take part_lines lines) ++ l) (closed_once (drop part_lines lines) refl)
      ∙ sym (append_assoc (printed_from run (take part_lines lines)) (printed_from after (drop part_lines lines)) (closing (run_from after (drop part_lines lines))))
      ∙ ap (λ (l : List ℕ). l ++ closing (run_from after (drop part_lines lines))) (printed-after part_lines run lines)
      ∙ ap (λ (r : Run). printed_from run lines ++ closing r) (run-after part_lines run lines)

-- ---- the parts of a book

some_line : {line : List ℕ} {lines : List (List ℕ)} → [] ≡ line ∷ lines → ⊥
some_line {line} {lines} e = let clash : 0 ≡ suc (length lines) = ap length e in omega arith

module _ (book : List ℕ) where
  abbrev left_at : ℕ → Reached → List ℕ
  left_at next reached = listed_from (run_of reached) (lines_from book next)

  left_none : (next : ℕ) (reached : Reached) → length book ≤ next → left_at next reached ≡ []
  left_none next reached h = ap (listed_from (run_of reached)) (lines_none book next h)

  left-some : (next : ℕ) (reached : Reached) → next < length book → left_at next reached ≡ list_from (run_of reached) (lines_from book next)
  left-some next reached h =
      let some = lines_at book next _ h refl in
      ap (listed_from (run_of reached)) some ∙ sym (ap (list_from (run_of reached)) some)

  -- a part, and what it leaves
  module _ (next : ℕ) (reached : Reached) (part : Part) (may : may_run_from book next reached ≡ true) (to : ComesTo book next reached part) where
    one_part : part_of book next reached ++ left_at part.next part.reached ≡ list_from (run_of reached) (lines_from book next)
    unfolding part_of
    one_part =
        let left : lines_from book part.next ≡ drop part_lines (lines_from book next) = simp may at to.left in
        let run : run_of part.reached ≡ run_from (run_of reached) (take part_lines (lines_from book next)) = simp may at to.run in
        simp may
        (ap (λ (l : List (List ℕ)). part_from (run_of reached) (lines_from book next) ++ listed_from (run_of part.reached) l) left
        ∙ ap (λ (r : Run). part_from (run_of reached) (lines_from book next) ++ listed_from r (drop part_lines (lines_from book next))) run
        ∙ part_and_left (run_of reached) (lines_from book next))

  all_parts : (next : ℕ) (reached : Reached) (part : Part) (more : List Part) → may_run_from book next reached ≡ true → InParts book next reached part more
      → joined_parts book next reached part more ≡ list_from (run_of reached) (lines_from book next)
  all_parts next reached part [] may i =
      sym (append-nil (part_of book next reached))
      ∙ ap (λ (l : List ℕ). part_of book next reached ++ l) (sym (left_none part.next part.reached i.1))
      ∙ one_part next reached part may i.0
  all_parts next reached part (further ∷ more) may i =
      ap (λ (l : List ℕ). part_of book next reached ++ l)
      (all_parts part.next part.reached further more (i.0.may may) i.2 ∙ sym (left-some part.next part.reached i.1))
      ∙ one_part next reached part may i.0

  -- a book that is too long is one part
  module _ (over : longest_book < length book) where
    may_not : may_run_from book 0 nothing_reached ≡ false
    unfolding may_run all_of
    may_not = simp (lt-leb (length book) longest_book over)

    refused-part : part_of book 0 nothing_reached ≡ listing_of book
    unfolding part_of
    refused-part = simp may_not (listing_over book over)

    one_alone : (part : Part) (more : List Part) → InParts book 0 nothing_reached part more → joined_parts book 0 nothing_reached part more ≡ listing_of book
    one_alone part [] i = refused-part
    one_alone part (further ∷ more) i =
        let none : lines_from book part.next ≡ [] = i.0.left ∙ simp may_not in
        absurd (some_line (sym none ∙ lines_at book part.next _ i.1 refl))

  -- however the parts are put, joined they are the listing
  pub parts_joined : (part : Part) (more : List Part) → InParts book 0 nothing_reached part more → joined_parts book 0 nothing_reached part more ≡ listing_of book
  parts_joined part more i =
      ⊎_elim
      (λ over. one_alone over part more i)
      (λ short.
      all_parts 0 nothing_reached part more (may-begin book short) i
      ∙ ap (λ (r : Run). list_from r (lines_of book)) begun
      ∙ listing_lines book short)
      (below_or_not longest_book (length book))
