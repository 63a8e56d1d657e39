-- The rows of a book's export are read as its accepted S entries, in order, and each has five fields: by induction over its lines, of which each has the row
-- of its own entry or none.
use Rattle.std.specs.Prelude.{Ok, Err}
use Rattle.laws.proofs.{ℕ, Bool, true, false, cond, ◌≡◌, refl, sym, ap, ◌∙◌, List, [], ◌∷◌, ◌++◌, map}
use Rattle.laws.specs.{keep, every}
use Rattle.laws.proofs.Elements.{keep_append, every_append}
use mathlib.Core.List.{map-append}
use Rattle.refusals.specs.{Verdict}
use Rattle.line_entry.specs.{Entry, Parsed}
use Rattle.line.specs.{entry_of}
use Rattle.book_listing.specs.{line_taken, if_accepted, Run, next}
use Rattle.book_export.specs.{adds, is_addition, exported_for, exported_row, exported_from}
use Rattle.sheet_read.specs.{Row}
use Rattle.sheet_judge.specs.{five_fields}
use Rattle.sheet_write.specs.{row_of}
use Rattle.sheet_import.specs.{row_line}
use Rattle.theorem_keeping.specs.{Each}
use Rattle.theorem_running.specs.{acts_in, acts_from}
use Rattle.theorem_sheets.specs.{adds_sub, entry_on, row_entries}
use Rattle.theorem_sheets.proofs.Lines.{Whole, entry_again}

module _ (run : Run) (line : List ℕ) (whole : Whole line) where
  row_entries_lem : (v : Verdict) (p : Parsed) → entry_of line ≡ p
      → row_entries (exported_for v p line) ≡ map entry_on (keep adds_sub (if_accepted v (acts_in p) []))
  unfolding keep
  row_entries_lem (Err r) p e = refl
  row_entries_lem (Ok _) (Err r) e = refl
  row_entries_lem (Ok _) (Ok (Entry.Column column)) e = refl
  row_entries_lem (Ok _) (Ok (Entry.On on)) e = go (adds on.act) refl
    where
      go : (t : Bool) → adds on.act ≡ t → row_entries (cond t (row_of line ∷ []) []) ≡ map entry_on (cond t (on ∷ []) [])
      go true q = ap (λ (x : Parsed). x ∷ []) (entry_again line whole (ap is_addition e ∙ q) ∙ e)
      go false q = refl

pub rows_entries : (lines : List (List ℕ)) (run : Run) → Each Whole lines → row_entries (exported_from run lines) ≡ map entry_on (keep adds_sub (acts_from run lines))
unfolding exported_from exported_row acts_from Each keep
rows_entries [] run h = refl
rows_entries (line ∷ lines) run h =
    let v = (line_taken run.own run.holding line).verdict in
    let acts = if_accepted v (acts_in (entry_of line)) [] in
    map-append (λ (row : Row). entry_of (row_line row)) (exported_row run line) (exported_from (next run line) lines)
    ∙ ap (λ (l : List Parsed). l ++ row_entries (exported_from (next run line) lines)) (row_entries_lem run line h.0 v (entry_of line) refl)
    ∙ ap (λ (l : List Parsed). map entry_on (keep adds_sub acts) ++ l) (rows_entries lines (next run line) h.1)
    ∙ sym (map-append entry_on (keep adds_sub acts) (keep adds_sub (acts_from (next run line) lines)))
    ∙ ap (map entry_on) (sym (keep_append adds_sub acts (acts_from (next run line) lines)))

-- and each has five fields
pub rows_five : (lines : List (List ℕ)) (run : Run) → every five_fields (exported_from run lines) ≡ true
unfolding exported_from exported_row every row_of
rows_five [] run = refl
rows_five (line ∷ lines) run =
    every_append five_fields (exported_row run line) (exported_from (next run line) lines)
    (go (line_taken run.own run.holding line).verdict (is_addition (entry_of line))) (rows_five lines (next run line))
  where
    go : (v : Verdict) (t : Bool) → every five_fields (cond (if_accepted v t false) (row_of line ∷ []) []) ≡ true
    go (Err r) t = refl
    go (Ok _) false = refl
    go (Ok _) true = refl
