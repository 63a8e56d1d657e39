-- A row's line: what was put into the room for a line is the line where it fits, and a line that does not fit is too long to be an entry. Its letter is S,
-- so that it is read as no column.
use Rattle.std.specs.Prelude.{Ok, Err}
use Rattle.laws.proofs.{ℕ, ◌+◌, ◌-◌, ◌≤◌, ◌<◌, ◌≡◌, sym, ap, ◌∙◌, List, [], ◌∷◌, ◌++◌, arith, length, take, drop, replicate, length-append, length-replicate}
use lib.Seq.{take_at}
use Rattle.text.specs.{comma, line_end, Wrote}
use Rattle.text.proofs.Writes.{wrote_is, wrote-next, wrote-length}
use Rattle.refusals.specs.{Refusal}
use Rattle.line_entry.specs.{Entry}
use Rattle.line.specs.{longest, letter_of, is_column_line, entry_of}
use Rattle.line.proofs.Laws.{ended_body, too_long}
use Rattle.line.proofs.Columns.{column_named}

-- room for the longest line and its end
abbrev pub room : List ℕ
room = replicate (longest + 1) 0

module _ (joined : List ℕ) where
  abbrev inner : List ℕ
  inner = 83 ∷ comma ∷ joined

  abbrev line : List ℕ
  line = inner ++ (line_end ∷ [])

  -- an S line is no T line
  pub no_column_lem : (column : ℕ) → entry_of line ≡ Ok (Entry.Column column) → ⊥
  unfolding is_column_line letter_of
  no_column_lem column e =
      let named = rw (ended_body inner) at (column_named line column e) in
      let z : ◌≡◌ {A = ℕ} 0 1 = cc in omega arith

  -- the line put from the front of the room
  module _ (after : List ℕ) (end : ℕ) (w : Wrote room 0 line after end) where
    pub line_long : longest + 1 < end → Err Refusal.Form ≡ entry_of line
    line_long h = too_long line inner (sym (ended_body inner)) (omega (arith, w.place, length-append inner (line_end ∷ [])))

    module _ (h : end ≤ longest + 1) where
      fits : 0 + length line ≤ length room
      fits = omega (arith, w.place, length-replicate {A = ℕ} (longest + 1) 0)

      pub line_within : end ≤ length after
      line_within = omega (arith, wrote-length w, wrote-next w fits, fits)

      pub line_stands : take (end - 0) (drop 0 after) ≡ line
      line_stands = ap (take (end - 0)) (wrote_is w fits) ∙ take_at line (drop end room) (end - 0) (omega (arith, wrote-next w fits))
