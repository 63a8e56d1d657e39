-- The integers for `omega`: an integer is read as two naturals, how far it stands above nought and how far below, of which one is nought.
-- Each operation has a law that says what it does to the two.
use mathlib.Core.Path.{◌≡◌, refl, ap}
use mathlib.Core.Bool.{Bool, true, false, not, cond}
use Prim.Native.Nat.{ℕ, zero, suc, ◌+◌, ◌*◌, ◌-◌, ◌≤◌, min, max}
use native.Mathlib.Omega.{arith}
use lib.Dec.{T, ltb, leb→le, le→leb, ltb→lt, nleb→lt, nltb→le}
use lib.Signed.{le_z, ◌≤ℤ◌}
use lib.IntN.{ℤ, pos, negsuc, ◌+ℤ◌, ◌-ℤ◌, ◌*ℤ◌, neg_ℤ, sub_ℕ, nat_abs}

abbrev pub above : ℤ → ℕ
above (pos n) = n
above (negsuc n) = 0

abbrev pub below : ℤ → ℕ
below (pos n) = 0
below (negsuc n) = suc n

pub one_side : (z : ℤ) → min (above z) (below z) ≡ 0
one_side (pos n) = omega arith
one_side (negsuc n) = omega arith

-- an equation of integers is one of naturals, either way
pub ℤ-same : (a b : ℤ) → above a + below b ≡ above b + below a → a ≡ b
ℤ-same (pos m) (pos n) e = ap pos (omega arith)
ℤ-same (pos m) (negsuc n) e = absurd (omega arith)
ℤ-same (negsuc m) (pos n) e = absurd (omega arith)
ℤ-same (negsuc m) (negsuc n) e = ap negsuc (omega arith)

pub ℤ-read : (a b : ℤ) → a ≡ b → above a + below b ≡ above b + below a
ℤ-read a b e = rw e

-- a choice has what both of its sides have
by_cases : (c : Bool) (x y : ℤ) (P : ℤ → Type 0) → (T c → P x) → (T (not c) → P y) → P (cond c x y)
by_cases true x y P f g = f tt
by_cases false x y P f g = g tt

pub sub_read : (a b : ℕ) → above (sub_ℕ a b) + b ≡ below (sub_ℕ a b) + a
sub_read a b =
    by_cases (ltb a b) (negsuc (b - suc a)) (pos (a - b)) (λ z. above z + b ≡ below z + a)
    (λ t. omega (arith, ltb→lt)) (λ t. omega (arith, nltb→le))

pub neg_read : (a : ℤ) → (above (neg_ℤ a) ≡ below a) × (below (neg_ℤ a) ≡ above a)
neg_read (pos zero) = (refl, refl)
neg_read (pos (suc n)) = (refl, refl)
neg_read (negsuc n) = (refl, refl)

pub add_read : (a b : ℤ) → above (a +ℤ b) + (below a + below b) ≡ below (a +ℤ b) + (above a + above b)
add_read (pos m) (pos n) = omega arith
add_read (pos m) (negsuc n) = omega (arith, sub_read m (suc n))
add_read (negsuc m) (pos n) = omega (arith, sub_read n (suc m))
add_read (negsuc m) (negsuc n) = omega arith

pub diff_read : (a b : ℤ) → above (a -ℤ b) + (below a + above b) ≡ below (a -ℤ b) + (above a + below b)
diff_read a b = omega (arith, add_read a (neg_ℤ b), neg_read b)

pub times_read : (k : ℕ) (a : ℤ) → above (pos k *ℤ a) + k * below a ≡ below (pos k *ℤ a) + k * above a
times_read k (pos n) = omega arith
times_read k (negsuc n) = omega (arith, neg_read (pos (k * suc n)))

pub abs_read : (a : ℤ) → nat_abs a ≡ above a + below a
abs_read (pos n) = omega arith
abs_read (negsuc n) = omega arith

le_read : (a b : ℤ) → T (le_z a b) → above a + below b ≤ above b + below a
le_read (pos m) (pos n) t = omega (arith, leb→le)
le_read (pos m) (negsuc n) t = absurd t
le_read (negsuc m) (pos n) t = omega arith
le_read (negsuc m) (negsuc n) t = omega (arith, leb→le)

nle_read : (a b : ℤ) → T (not (le_z a b)) → above b + below a ≤ above a + below b
nle_read (pos m) (pos n) t = omega (arith, nleb→lt)
nle_read (pos m) (negsuc n) t = omega arith
nle_read (negsuc m) (pos n) t = absurd t
nle_read (negsuc m) (negsuc n) t = omega (arith, nleb→lt)

-- the lesser of two
pub min-read : (a b : ℤ) → (above (cond (le_z a b) a b) ≡ min (above a) (above b)) × (below (cond (le_z a b) a b) ≡ max (below a) (below b))
min-read a b =
    by_cases (le_z a b) a b (λ z. (above z ≡ min (above a) (above b)) × (below z ≡ max (below a) (below b)))
    (λ t. omega (arith, le_read a b t, one_side a, one_side b))
    (λ t. omega (arith, nle_read a b t, one_side a, one_side b))

-- the order of integers is one of naturals, either way
pub ≤ℤ-read : (a b : ℤ) → a ≤ℤ b → above a + below b ≤ above b + below a
≤ℤ-read a b h = le_read a b h.le

pub ≤ℤ-same : (a b : ℤ) → above a + below b ≤ above b + below a → a ≤ℤ b
≤ℤ-same (pos m) (pos n) h = record { le = le→leb m n (omega arith) }
≤ℤ-same (pos m) (negsuc n) h = absurd (omega arith)
≤ℤ-same (negsuc m) (pos n) h = record { le = tt }
≤ℤ-same (negsuc m) (negsuc n) h = record { le = le→leb n m (omega arith) }

-- `omega` over ℤ: each sum, difference or product in play is one more entry, as `omega (ints, diff_read a b)`
pub ruleset ints = (arith, ℤ-same, ℤ-read, ≤ℤ-same, ≤ℤ-read)
