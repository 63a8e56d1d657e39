-- A part: what so many lines print, and behind the last line the foot and E; and all lines at once.
use Rattle.laws.proofs.{ℕ, ◌+◌, ◌*◌, ◌≤◌, ◌<◌, ◌≡◌, refl, sym, ap, ◌∙◌, true, false, List, [], ◌++◌, append-nil, length-append, arith, length, take, drop}
use lib.Seq.{length-take-le}
use Rattle.text.specs.{Wrote}
use Rattle.text.proofs.Writes.{wrote-next, wrote_is, wrote-length, wrote_as, wrote_then}
use Rattle.statement_field.specs.{Put}
use Rattle.book_print.specs.{report_width}
use Rattle.book_listing.specs.{lines_of, Run, run_from, printed_from, closing, list_from, longest_book, refused_book, listing_of}
use Rattle.book_listing.proofs.Lines.{lines_at, lines_none}
use Rattle.book_listing.proofs.Folding.{listing_lines}
use Rattle.book_reached.specs.{Reached, run_of, nothing_reached, may_run_from}
use Rattle.book_reached.proofs.Bounds.{begun}
use Rattle.book_run.specs.{Part, lines_from, RunOf}
use Rattle.book_run.proofs.Runs.{all_lines}
use Rattle.book_parts.specs.{part_lines, closing_at, closing_width, part_from, part_of, ComesTo, Whole}

-- ---- a part put

pub whole : {bytes out after : List ℕ} {n : ℕ} → Wrote out 0 bytes after n → length bytes ≤ length out → Whole bytes out after n
whole {bytes} {out} {after} {n} w room =
    let next : n ≡ length bytes = omega (arith, wrote-next w (omega arith)) in
    let short : n ≤ length after = omega (arith, wrote-length w) in
    record { count = next; stored = wrote_is w (omega arith); fits = short; part = sym (length-take-le n after short) }

-- behind the last line stand the foot and E, and behind another nothing
module _ (run : Run) (book : List ℕ) (next : ℕ) (lines : List (List ℕ)) (same : lines_from book next ≡ lines) where
  pub closed_not : next < length book → closing_at run lines ≡ []
  closed_not h = sym (ap (closing_at run) same) ∙ ap (closing_at run) (lines_at book next _ h refl)

  pub closed : length book ≤ next → closing_at run lines ≡ closing run
  closed h = sym (ap (closing_at run) same) ∙ ap (closing_at run) (lines_none book next h)

module _ (book : List ℕ) (next : ℕ) (reached : Reached) where
  abbrev run : Run
  run = run_of reached

  abbrev lines : List (List ℕ)
  lines = lines_from book next

  -- a book that may run
  module _ (h : may_run_from book next reached ≡ true) {out after : List ℕ} {part : Part} (ran : RunOf book next reached part_lines out 0 after part) (room : part_lines * report_width + closing_width ≤ length out) where
    abbrev listed : List ℕ
    listed = printed_from run (take part_lines lines)

    part_is : (end : List ℕ) → closing_at (run_from run (take part_lines lines)) (drop part_lines lines) ≡ end → listed ++ end ≡ part_of book next reached
    unfolding part_of part_from
    part_is end e = simp h (ap (λ (l : List ℕ). listed ++ l) (sym e))

    pub comes : (count : ℕ) → ComesTo book next reached (record { count = count; next = part.next; reached = part.reached })
    comes count = record {
      run = ran.run ∙ sym (simp h);
      left = ran.left ∙ sym (simp h);
      may = λ m. ran.may;
      on = ran.on (omega arith);
    }

    pub part-more : part.next < length book → Whole (part_of book next reached) out after part.count
    part-more inside =
        let ended = part_is [] (closed_not (run_from run (take part_lines lines)) book part.next _ ran.left inside) in
        whole (wrote_as (sym (append-nil listed) ∙ ended) ran.wrote)
        (omega (arith, ap length (sym (append-nil listed) ∙ ended), ran.wrote.place, ran.short))

    pub part_last : length book ≤ part.next → {last : List ℕ} {count : ℕ} → Put closing_width after part.count (closing (run_of part.reached)) last count
        → Whole (part_of book next reached) out last count
    part_last over {last} {count} end =
        let ended = part_is (closing (run_of part.reached)) (closed (run_from run (take part_lines lines)) book part.next _ ran.left over ∙ ap (λ (r : Run). closing r) (sym ran.run)) in
        whole (wrote_as ended (wrote_then ran.wrote end.wrote))
        (omega (arith, ap length ended, length-append listed (closing (run_of part.reached)), ran.wrote.place, ran.short, end.few))

  -- one that may not
  module _ (h : may_run_from book next reached ≡ false) where
    may_not : may_run_from book next reached ≡ true → ⊥
    may_not m = let clash : ◌≡◌ {A = ℕ} 0 1 = cc in omega arith

    pub refused-comes : (count : ℕ) → ComesTo book next reached (record { count = count; next = length book; reached = reached })
    refused-comes count = record {
      run = sym (simp h);
      left = lines_none book (length book) (omega arith) ∙ sym (simp h);
      may = λ m. absurd (may_not m);
      on = λ inside. inside;
    }

    pub refused-part : {most : ℕ} {out after : List ℕ} {count : ℕ} → Put most out 0 refused_book after count → most ≤ length out
        → Whole (part_of book next reached) out after count
    unfolding part_of
    refused-part {most} {out} {after} {count} put room = whole (wrote_as (sym (simp h)) put.wrote) (simp h (omega (arith, put.few)))

-- ---- all lines at once

module _ (book : List ℕ) (short : length book ≤ longest_book) where
  pub listing_whole : (last : Run) → last ≡ run_from (run_of nothing_reached) (take longest_book (lines_from book 0))
      → printed_from (run_of nothing_reached) (take longest_book (lines_from book 0)) ++ closing last ≡ listing_of book
  unfolding list_from
  listing_whole last e =
      ap (λ (r : Run). printed_from (run_of nothing_reached) (take longest_book (lines_from book 0)) ++ closing r) e
      ∙ ap (λ (l : List (List ℕ)). list_from (run_of nothing_reached) l) (all_lines book short)
      ∙ ap (λ (r : Run). list_from r (lines_of book)) begun
      ∙ listing_lines book short
