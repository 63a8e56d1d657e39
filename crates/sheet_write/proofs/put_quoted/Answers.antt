-- `sheet_write::put_quoted` meets its contract. The loop's invariant: what is left of the field, and the closing quote, put behind what was put, are all that
-- stands behind the opening quote.
use Rattle.laws.proofs.{ℕ, ◌+◌, ◌≤◌, ◌<◌, ◌≡◌, sym, ap, ◌∙◌, List, [], ◌∷◌, ◌++◌, append_assoc, length, get_or, drop}
use Rattle.text.proofs.Writes.{wrote_then, wrote_as, wrote-length}
use Rattle.sheet_read.specs.{quote}
use Rattle.sheet_write.specs.{doubled, quoted}
use Rattle.sheet_write.proofs.Doubling.{doubled_at, doubled_none}
use Rattle.sheet_write.proofs.put_quoted.Goals as goal

-- a byte in front of what is left, and nothing left
module _ (field : List ℕ) (i : ℕ) where
  byte_first : i < length field → doubled (get_or field i 0 ∷ []) ++ (doubled (drop (i + 1) field) ++ (quote ∷ [])) ≡ doubled (drop i field) ++ (quote ∷ [])
  byte_first h = sym (append_assoc (doubled (get_or field i 0 ∷ [])) (doubled (drop (i + 1) field)) (quote ∷ [])) ∙ ap (λ (l : List ℕ). l ++ (quote ∷ [])) (doubled_at field i h)

  none_left : length field ≤ i → quote ∷ [] ≡ doubled (drop i field) ++ (quote ∷ [])
  none_left h = ap (λ (l : List ℕ). l ++ (quote ∷ [])) (sym (doubled_none field i h))

pub loop-byte-preserved : goal.loop-byte-preserved
loop-byte-preserved c =
    let put = c.put_doubled-next.ensures in
    let turn = c in
    let l = turn in
    let field = l.args.field.now in (
      wrote-length put ∙ l.loop-byte.invariant.0,
      λ o p w. l.loop-byte.invariant.1 o p (wrote_as (byte_first field l.loop-byte.byte-index turn.loop-byte-test.true) (wrote_then put w)),
    )

pub returns : goal.returns
unfolding quoted
returns c =
    let l = c in
    let field = l.args.field.now in
    wrote_then l.put_byte-next.ensures
    (l.loop-byte.invariant.1 _ _ (wrote_as (none_left field l.loop-byte.byte-index c.loop-byte-test.false) c.put_byte.ensures))
