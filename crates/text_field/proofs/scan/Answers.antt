-- `text_field::scan` meets its contract. The line scan's invariant: what is noted so far, with the starts from here on, are all the starts, and so for the
-- count; the field scan's: the end of the field, seen from i, is where it was at the field's start.
use Rattle.laws.proofs.{ℕ, List, ◌+◌, ◌≤◌, ◌≡◌, ◌∙◌, arith, length, drop}
use Rattle.text.specs.{comma, width_to, split}
use Rattle.text.proofs.Widths.{end_here, end_last}
use Rattle.text_field.specs.{places_of}
use Rattle.text_field.proofs.Laws.{count_next, count_last, note_next, note_last}
use Rattle.text_field.proofs.scan.Goals as goal
use Rattle.text_field.proofs.scan.Goals.{then-line-i, else-line-i+then-line-i-eq44}

-- what is known where the two ways out of the field scan meet: `end` is the field's end
abbrev Ended : List ℕ → ℕ → ℕ → Type 0
Ended s start end = (start ≤ end) × (end ≤ length s) × (end ≡ start + width_to comma (drop start s))

pub line-preserved : goal.line-preserved
line-preserved c =
    let l = c.line in
    let s = c.args.line.now in
    let i = c.field.i in
    let end = c.if-line-i.end in
    let ended : Ended s l.start end =
    elim c.if-line-i.branch [
      | then-line-i w ↦ let z = end_last comma s i w.if-line-i.true in let e = w.end-is in (omega arith, omega arith, omega arith)
      | else-line-i+then-line-i-eq44 w ↦
          let z = end_here comma s i w.if-line-i.false w.if-line-i-eq44.true in let e = w.end-is in (omega arith, omega arith, omega arith)
    ] in
    let n = count_next s l.start end ended.2 l.invariant.0 ended.1 c.if-line-end.false in (
      omega arith,
      omega (arith, ended),
      c.note.auto.starts ∙ l.invariant.2,
      omega arith,
      note_next s l.start end ended.2 l.invariant.0 ended.1 _ _ _ c.note.ensures c.if-line-end.false ∙ l.invariant.4,
    )

pub returns : goal.returns
unfolding places_of
returns c =
    let l = c.line in
    let s = c.args.line.now in
    let i = c.field.i in
    let end = c.if-line-i.end in
    let ended : Ended s l.start end =
    elim c.if-line-i.branch [
      | then-line-i w ↦ let z = end_last comma s i w.if-line-i.true in let e = w.end-is in (omega arith, omega arith, omega arith)
      | else-line-i+then-line-i-eq44 w ↦
          let z = end_here comma s i w.if-line-i.false w.if-line-i-eq44.true in let e = w.end-is in (omega arith, omega arith, omega arith)
    ] in
    let n = count_last s l.start end ended.2 l.invariant.0 ended.1 c.if-line-end.true in
    let e : l.count + 1 ≡ length (split s) = omega arith in
    let q = note_last s l.start end ended.2 l.invariant.0 ended.1 _ _ _ c.note.ensures _ c.note-2.ensures c.if-line-end.true ∙ l.invariant.4 in
    λ i. record { count = e i; starts = q i }
