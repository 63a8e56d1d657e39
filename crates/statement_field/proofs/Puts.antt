-- Parts of a statement put one after the other are one part, and as long as they are together.
use Rattle.laws.proofs.{ℕ, suc, ◌+◌, ◌^◌, ◌≤◌, ◌<◌, ◌≡◌, sym, List, [], ◌∷◌, ◌++◌, append-nil, arith, length, length-append}
use Rattle.text.specs.{Wrote, greatest}
use Rattle.text.proofs.Digits.{length-digits_le}
use Rattle.text.proofs.Writes.{wrote_none, wrote_then, wrote_as}
use Rattle.statement_format.specs.{number_text}
use Rattle.statement_field.specs.{Put}

module _ {l : List ℕ} {at : ℕ} {m : List ℕ} {p : ℕ} where
  pub put_then : {j k : ℕ} {xs ys o : List ℕ} {q : ℕ} → Put j l at xs m p → Put k m p ys o q → Put (j + k) l at (xs ++ ys) o q
  put_then {j} {k} {xs} {ys} a b = record { wrote = wrote_then a.wrote b.wrote; few = simp length-append (omega (arith, a.few, b.few)) }

  -- a part with its bytes said another way, with a wider bound, and with a closer one
  pub put_as : {j : ℕ} {xs ys : List ℕ} → xs ≡ ys → Put j l at xs m p → Put j l at ys m p
  put_as {j} {xs} {ys} e a = record { wrote = wrote_as e a.wrote; few = rw (sym e) a.few }

  pub put_within : {j k : ℕ} {xs : List ℕ} → j ≤ k → Put j l at xs m p → Put k l at xs m p
  put_within h a = record { wrote = a.wrote; few = omega (arith, a.few) }

  pub put_few : {j k : ℕ} {xs : List ℕ} → length xs ≤ k → Put j l at xs m p → Put k l at xs m p
  put_few h a = record { wrote = a.wrote; few = h }

  -- the last of some pieces
  pub put_last : {j : ℕ} {xs : List ℕ} → Put j l at xs m p → Put j l at (xs ++ []) m p
  put_last {j} {xs} a = put_as (sym (append-nil xs)) a

-- bytes put are as long as they are
pub put_whole : {l : List ℕ} {at : ℕ} {bytes : List ℕ} {m : List ℕ} {p : ℕ} → Wrote l at bytes m p → Put (length bytes) l at bytes m p
put_whole w = record { wrote = w; few = omega arith }

pub put_one : {l : List ℕ} {at b : ℕ} {m : List ℕ} {p : ℕ} → Wrote l at (b ∷ []) m p → Put 1 l at (b ∷ []) m p
put_one w = record { wrote = w; few = omega arith }

-- nothing put
pub put_none : (l : List ℕ) (at : ℕ) → length l ≤ greatest → at ≤ greatest → Put 0 l at [] l at
put_none l at h k = record { wrote = wrote_none l at h k; few = omega arith }

-- ---- bounds of fields

-- a number of at most k + 1 digits and the byte that ends its field are at most k + 2 bytes
pub number-few : (k n end : ℕ) → n < 10 ^ suc k → length (number_text n end) ≤ suc k + 1
unfolding number_text
number-few k n end h = simp length-append (omega (arith, length-digits_le k n h))
