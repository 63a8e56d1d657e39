-- What is left where no line is run any more, and what is run by whether the book can have come so far.
use Rattle.laws.proofs.{ℕ, ◌≤◌, ◌<◌, ◌≡◌, sym, ap, subst, ◌∙◌, Bool, true, false, ◌&&◌, List, [], ◌∷◌, ◌++◌, ◌⊎◌, inl, inr, ⊎_elim, arith, ltb, ltb-true, ltb-false, lt-ltb, length, take, drop, take_all, drop_of_length-le}
use Rattle.laws.proofs.Lists.{and_left, and_right}
use Rattle.laws.proofs.Order.{below_or_not}
use Rattle.holding.specs.{Holding}
use Rattle.book_listing.specs.{lines_of, Run, next, printed, printed_from, longest_book}
use Rattle.book_listing.proofs.Lines.{lines_none, lines_few}
use Rattle.book_reached.specs.{Reached, may_run_from}
use Rattle.book_run.specs.{Part, lines_from, RunOf, RunsIf}

-- what is carried from line to line
abbrev pub carried : List ℕ → ℕ → Holding → ℕ → ℕ → Run
carried table count holding accepted refused = record { own = take count table; holding = holding; accepted = accepted; refused = refused }

-- ---- the loop's two tests

module _ (book : List ℕ) (i left : ℕ) where
  pub goes_on : (ltb i (length book) && ltb 0 left) ≡ true → (i < length book) × (1 ≤ left)
  goes_on e =
      let inside = ltb-true i (length book) (and_left (ltb i (length book)) (ltb 0 left) e) in
      let some = ltb-true 0 left (and_right (ltb i (length book)) (ltb 0 left) e) in
      (inside, omega arith)

  -- no line is run any more
  pub record Stopped : Type 0 where
    pub none : take left (lines_from book i) ≡ []
    pub rest : lines_from book i ≡ drop left (lines_from book i)
    pub reason : (length book ≤ i) ⊎ (left ≡ 0)

  over : length book ≤ i → Stopped
  over h =
      let none = lines_none book i h in
      record { none = ap (take left) none ∙ take_all left [] (omega arith); rest = none ∙ sym (drop_of_length-le [] {i = left} (omega arith)) ∙ ap (drop left) (sym none); reason = inl h }

  spent : left ≡ 0 → Stopped
  spent h = record { none = ap (λ (n : ℕ). take n (lines_from book i)) h; rest = ap (λ (n : ℕ). drop n (lines_from book i)) (sym h); reason = inr h }

  pub stopped : (ltb i (length book) && ltb 0 left) ≡ false → Stopped
  stopped e =
      ⊎_elim
      (λ inside. spent (omega (arith, ltb-false 0 left (ap (λ (b : Bool). b && ltb 0 left) (sym (lt-ltb i (length book) inside)) ∙ e))))
      over
      (below_or_not i (length book))

-- no book that may run has more lines than it may have bytes
pub all_lines : (book : List ℕ) → length book ≤ longest_book → take longest_book (lines_from book 0) ≡ lines_of book
all_lines book short = take_all longest_book (lines_of book) (omega (arith, lines_few book))

-- ---- what a line prints, and those behind it

module _ (run : Run) where
  pub printed_line : (line : List ℕ) (rest lines : List (List ℕ)) (after : Run) → after ≡ next run line → line ∷ rest ≡ lines
      → printed run line ++ printed_from after rest ≡ printed_from run lines
  unfolding printed_from
  printed_line line rest lines after q e = ap (λ (r : Run). printed run line ++ printed_from r rest) q ∙ ap (printed_from run) e

  pub printed_none : (lines : List (List ℕ)) → lines ≡ [] → [] ≡ printed_from run lines
  unfolding printed_from
  printed_none lines h = sym (ap (printed_from run) h)

-- ---- by whether the book can have come so far

module _ (book : List ℕ) (next : ℕ) (reached : Reached) (most : ℕ) (out : List ℕ) (at : ℕ) (after : List ℕ) (part : Part) where
  abbrev RunsBy : Bool → Type 0
  RunsBy may = RunsIf may book next reached most out at after part

  pub runs : may_run_from book next reached ≡ true → RunOf book next reached most out at after part → RunsBy (may_run_from book next reached)
  runs may ran = subst RunsBy (sym may) ran

  pub runs_not : may_run_from book next reached ≡ false → after ≡ out → part ≡ record { count = at; next = next; reached = reached }
      → RunsBy (may_run_from book next reached)
  runs_not may kept nothing = subst RunsBy (sym may) (kept, nothing)

  pub run_of : may_run_from book next reached ≡ true → RunsBy (may_run_from book next reached) → RunOf book next reached most out at after part
  run_of may by = subst RunsBy may by
