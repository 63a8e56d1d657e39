-- Writes: two of them, the second where the first ends, are one. A write that fits leaves the bytes, and all else as it was.
use Rattle.laws.proofs.{ℕ, ◌+◌, ◌-◌, ◌≤◌, take_all, min, ◌≡◌, refl, sym, ap, subst, ◌∙◌, List, [], ◌++◌, append_assoc, ⊎_elim, arith, length, take, drop, length-append, sets}
use lib.Seq.{length-sets, sets-eq}
use Rattle.laws.proofs.Order.{below_or_not}
use Rattle.laws.proofs.Stores.{sets-append, sets-out, sets_cut}
use Rattle.text.specs.{Wrote, greatest}

-- what has no room is not stored
pub room_stored : (l : List ℕ) (at n : ℕ) (xs : List ℕ) → n ≡ min (length xs) (length l - at) → sets l at (take n xs) ≡ sets l at xs
room_stored l at n xs e =
    ⊎_elim (λ short. sets_cut l at n xs (omega arith) (omega arith)) (λ fits. ap (sets l at) (take_all n xs (omega arith))) (below_or_not (length l - at) (length xs))

-- past the greatest place there is nothing to store to
then_bytes : (l : List ℕ) (at p : ℕ) (xs ys : List ℕ) → length l ≤ greatest → p ≡ min (at + length xs) greatest → sets (sets l at xs) p ys ≡ sets l at (xs ++ ys)
then_bytes l at p xs ys h e =
    ⊎_elim
    (λ past.
    sets-out (sets l at xs) p ys (omega (arith, length-sets l at xs))
    ∙ sym (sym (sets-append l at xs ys) ∙ sets-out (sets l at xs) (at + length xs) ys (omega (arith, length-sets l at xs))))
    (λ fits. ap (λ (k : ℕ). sets (sets l at xs) k ys) (omega arith) ∙ sets-append l at xs ys)
    (below_or_not greatest (at + length xs))

pub wrote_none : (l : List ℕ) (at : ℕ) → length l ≤ greatest → at ≤ greatest → Wrote l at [] l at
wrote_none l at h k = record { stored = refl; place = omega arith; lent = h }

pub wrote_then : {l : List ℕ} {at : ℕ} {xs ys m o : List ℕ} {p q : ℕ} → Wrote l at xs m p → Wrote m p ys o q → Wrote l at (xs ++ ys) o q
wrote_then {l} {at} {xs} {ys} {m} {o} {p} {q} a b = record {
  stored = b.stored ∙ ap (λ (k : List ℕ). sets k p ys) a.stored ∙ then_bytes l at p xs ys a.lent a.place;
  place = b.place ∙ simp length-append (omega (arith, a.place));
  lent = a.lent;
}

-- a write with its bytes said another way
pub wrote_as : {l : List ℕ} {at : ℕ} {xs ys o : List ℕ} {p : ℕ} → xs ≡ ys → Wrote l at xs o p → Wrote l at ys o p
wrote_as {l} {at} {xs} {ys} {o} {p} e w = subst (λ (k : List ℕ). Wrote l at k o p) e w

pub wrote-length : {l : List ℕ} {at : ℕ} {bs o : List ℕ} {p : ℕ} → Wrote l at bs o p → length o ≡ length l
wrote-length {l} {at} {bs} {o} {p} w = ap length w.stored ∙ length-sets l at bs

module _ {l : List ℕ} {at : ℕ} {bs o : List ℕ} {p : ℕ} (w : Wrote l at bs o p) (fits : at + length bs ≤ length l) where
  pub wrote-next : p ≡ at + length bs
  wrote-next = omega (arith, w.place, w.lent)

  pub wrote_is : o ≡ take at l ++ (bs ++ drop p l)
  wrote_is =
      w.stored ∙ sets-eq bs l at fits ∙ append_assoc (take at l) bs (drop (at + length bs) l)
      ∙ ap (λ (k : ℕ). take at l ++ (bs ++ drop k l)) (sym wrote-next)
