-- All the cells of a line, and room for them.
use Rattle.std.specs.Prelude.{Ok, Err}
use Rattle.laws.proofs.{ℕ, ◌-◌, ◌≤◌, ◌≡◌, refl, sym, ap, ◌∙◌, false, List, arith, ltb-false, ltb, length, take, length-drop, drop_of_length-le, replicate, sets}
use Rattle.laws.specs.{some}
use Rattle.laws.proofs.Stores.{stored-in_front, stored_stands}
use Rattle.text.specs.{split}
use Rattle.text_field.specs.{Places, places_of}
use Rattle.text_field.proofs.Laws.{count-found}
use Rattle.refusals.specs.{Refusal, Verdict, weighed, buffer_after}
use Rattle.refusals.proofs.Laws.{RuledOut, clear_before, clear_last}
use Rattle.table.specs.{longest_column}
use Rattle.line_cells.specs.{tenths_all, cells_found}
use Rattle.line_cells.proofs.Laws.{cells_many}
use Rattle.line_column.specs.{cells_of, column_of, column_rule, readable, column_read}

pub counted : (s : List ℕ) (places : Places) (n : ℕ) → places ≡ places_of (split s) → n ≡ places.count - 3 → n ≡ length (cells_of (split s))
counted s places n scanned q = q ∙ ap (λ (m : ℕ). m - 3) (count-found s places scanned) ∙ sym (length-drop 3 (split s))

module _ (fs : List (List ℕ)) (h : length fs ≤ 3) where
  pub none_found : record { malformed = false; over = false } ≡ cells_found (cells_of fs)
  unfolding cells_found some
  none_found = rw (drop_of_length-le fs h)

  pub none_kept : (out : List ℕ) → out ≡ sets out 0 (tenths_all (cells_of fs))
  unfolding tenths_all
  none_kept out = rw (drop_of_length-le fs h)

-- the front of 101 places in which the cells were kept
pub kept-front : (fs : List (List ℕ)) (count : ℕ) (kept : List ℕ) → length (cells_of fs) ≤ longest_column → count ≡ length (cells_of fs)
    → kept ≡ sets (replicate longest_column 0) 0 (tenths_all (cells_of fs)) → take count kept ≡ tenths_all (cells_of fs)
kept-front fs count kept few n q =
    let many = cells_many (cells_of fs) in
    ap (take count) q ∙ stored_stands 0 longest_column (tenths_all (cells_of fs)) count (omega (arith, many)) (omega arith)

-- a line that is accepted has at most 101 cells
pub few-cells : (fs : List (List ℕ)) → RuledOut (column_rule fs).cases → length (cells_of fs) ≤ longest_column
unfolding column_rule
few-cells fs out = ltb-false _ _ (out 5)

pub room-weighed : (v own w : Verdict) (fs : List (List ℕ)) (n room : ℕ) → own ≡ v → n ≡ length (cells_of fs)
    → w ≡ weighed own (ltb room n) Refusal.OutputShort → w ≡ readable v fs room
unfolding readable
room-weighed v own w fs n room p q e = e ∙ simp (p, q)

-- what is read of a line under its own verdict v, by the verdict w that was reached with the room
module _ (v w : Verdict) (fs : List (List ℕ)) (out : List ℕ) (e : w ≡ readable v fs (length out)) where
  pub read-refused : (r : Refusal) → w ≡ Err r
      → (record { verdict = Err r; column = 0; count = 0 } ≡ column_read (readable v fs (length out)) fs)
      × (out ≡ buffer_after (readable v fs (length out)) (tenths_all (cells_of fs)) out)
  unfolding buffer_after
  read-refused r k = rw (sym e ∙ k) (refl, refl)

  module _ (k : w ≡ Ok tt) where
    pub own_clear : v ≡ Ok tt
    unfolding readable
    own_clear = clear_before v _ Refusal.OutputShort (sym e ∙ k)

    pub cells_fit : length (cells_of fs) ≤ length out
    unfolding readable
    cells_fit = ltb-false (length out) (length (cells_of fs)) (clear_last v _ Refusal.OutputShort (sym e ∙ k))

    pub read_clear : (column count : ℕ) (kept : List ℕ) → column ≡ column_of fs → count ≡ length (cells_of fs) → kept ≡ sets out 0 (tenths_all (cells_of fs))
        → (record { verdict = (Ok tt); column = column; count = count } ≡ column_read (readable v fs (length out)) fs)
        × (kept ≡ buffer_after (readable v fs (length out)) (tenths_all (cells_of fs)) out)
    unfolding buffer_after
    read_clear column count kept n m q =
        rw (sym e ∙ k) (simp (n, m), q ∙ stored-in_front (tenths_all (cells_of fs)) out (omega (arith, cells_many (cells_of fs), cells_fit)))
