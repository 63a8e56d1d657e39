-- Bytes that stand in a list from a place on, and the place after them. What stands in two parts stands part by part, and the other way round.
use Rattle.laws.proofs.{ℕ, ◌+◌, ◌<◌, ◌≡◌, refl, sym, ap, ◌∙◌, List, [], ◌∷◌, ◌++◌, append_assoc, append-nil, arith, length, drop, length-append, drop_of_length-le, drop-drop}
use lib.Seq.{drop_at}
use Rattle.statement_format.specs.{joined}

pub record Stands (s : List ℕ) (at : ℕ) (bytes : List ℕ) (next : ℕ) : Type 0 where
  pub here : drop at s ≡ bytes ++ drop next s
  pub after : next ≡ at + length bytes

-- what was read at a place stands there, and the place is one where something can stand
pub record There (s : List ℕ) (at : ℕ) (bytes : List ℕ) (next : ℕ) : Type 0 where
  pub started : 0 < at
  pub stands : Stands s at bytes next

pub stands_none : (s : List ℕ) (at : ℕ) → Stands s at [] at
stands_none s at = record { here = refl; after = omega arith }

pub stands_then : {s : List ℕ} {at next last : ℕ} {xs ys : List ℕ} → Stands s at xs next → Stands s next ys last → Stands s at (xs ++ ys) last
stands_then {s} {at} {next} {last} {xs} {ys} a b = record {
  here = a.here ∙ ap (λ (l : List ℕ). xs ++ l) b.here ∙ sym (append_assoc xs ys (drop last s));
  after = b.after ∙ simp (a.after, length-append) (omega arith);
}

module _ {s : List ℕ} {at last : ℕ} (xs ys : List ℕ) (both : Stands s at (xs ++ ys) last) where
  behind : drop (at + length xs) s ≡ ys ++ drop last s
  behind =
      sym (drop-drop (length xs) at s)
      ∙ ap (drop (length xs)) (both.here ∙ append_assoc xs ys (drop last s))
      ∙ drop_at xs (ys ++ drop last s) (length xs) refl

  pub stands_first : Stands s at xs (at + length xs)
  stands_first = record { here = both.here ∙ append_assoc xs ys (drop last s) ∙ ap (λ (l : List ℕ). xs ++ l) (sym behind); after = refl }

  pub stands_rest : Stands s (at + length xs) ys last
  stands_rest = record { here = behind; after = both.after ∙ simp length-append (omega arith) }

-- all of a list stands from its start to its end, and nothing else does
pub stands_whole : (s : List ℕ) → Stands s 0 s (length s)
stands_whole s = record {
  here = sym (append-nil s) ∙ ap (λ (l : List ℕ). s ++ l) (sym (drop_of_length-le s {i = length s} (omega arith)));
  after = omega arith;
}

pub whole_stands : {s bytes : List ℕ} → Stands s 0 bytes (length s) → s ≡ bytes
whole_stands {s} {bytes} all =
    all.here ∙ ap (λ (l : List ℕ). bytes ++ l) (drop_of_length-le s {i = length s} (omega arith)) ∙ append-nil bytes

-- pieces that stand one after the other: the first of them, the others, and the place after the last
pub record Pieces (s : List ℕ) (at : ℕ) (pieces : List (List ℕ)) (last : ℕ) : Type 0 where
  pub all : Stands s at (joined pieces) last

module _ {s : List ℕ} {at last : ℕ} {piece : List ℕ} {pieces : List (List ℕ)} (some : Pieces s at (piece ∷ pieces) last) where
  pub piece_first : Stands s at piece (at + length piece)
  unfolding joined
  piece_first = stands_first piece (joined pieces) some.all

  pub piece_rest : Pieces s (at + length piece) pieces last
  unfolding joined
  piece_rest = record { all = stands_rest piece (joined pieces) some.all }

pub piece_last : {s : List ℕ} {at last : ℕ} → Pieces s at [] last → at ≡ last
unfolding joined
piece_last none = omega (arith, none.all.after)
