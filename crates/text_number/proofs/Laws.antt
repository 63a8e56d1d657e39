-- Numbers, byte by byte: what a byte more makes of a number, and what the first bytes say of the rest.
use Rattle.std.specs.Prelude.{Ok, Err}
use Rattle.laws.proofs.{ℕ, ◌+◌, ◌-◌, ◌≤◌, ◌<◌, ◌≡◌, refl, sym, ap, ◌∙◌, List, [], ◌∷◌, arith, add-one, le-leb, lt-leb, eq-eqb, ne_eqb, length, get_or, drop, drop_of_length-le, drop-cons}
use Rattle.text_number.specs.{Number, Unread, append_digit, append, more, headed, number_in}

-- ---- one byte

module _ (n : Number) (b : ℕ) where
  pub append_low : b < 48 → Err Unread.Malformed ≡ append n b
  unfolding append
  append_low h = simp (lt-leb 48 b h)

  pub append_high : 57 < b → Err Unread.Malformed ≡ append n b
  unfolding append
  append_high h = simp (le-leb 48 b (omega arith), lt-leb b 57 h)

  pub append_digit_lem : 48 ≤ b → b ≤ 57 → append_digit n (b - 48) ≡ append n b
  unfolding append
  append_digit_lem l h = simp (le-leb 48 b l, le-leb b 57 h)

-- the same of a number that is known to be m
pub append-known : (n m r : Number) (b : ℕ) → 48 ≤ b → b ≤ 57 → n ≡ m → r ≡ append_digit m (b - 48) → r ≡ append n b
append-known n m r b l h e q = q ∙ append_digit_lem m b l h ∙ ap (λ (k : Number). append k b) (sym e)

module _ (n : Number) (s : List ℕ) (i : ℕ) where
  pub more-next : i < length s → more (append n (get_or s i 0)) (drop (i + 1) s) ≡ more n (drop i s)
  unfolding more
  more-next h = rw (add-one, drop-cons s i 0 h)

  pub more_end : length s ≤ i → more n (drop i s) ≡ n
  unfolding more
  more_end h = rw (drop_of_length-le s h)

-- ---- a number, by how many bytes there are

pub none_read : (s : List ℕ) → length s ≡ 0 → Err Unread.Malformed ≡ number_in s
unfolding number_in headed
none_read [] h = refl
none_read (b ∷ s) h = absurd (omega arith)

pub one_read : (s : List ℕ) → length s ≡ 1 → more (Ok 0) s ≡ number_in s
unfolding number_in headed
one_read [] h = absurd (omega arith)
one_read (b ∷ []) h = refl
one_read (b ∷ d ∷ s) h = absurd (omega arith)

pub zero_in_front : (s : List ℕ) → 1 < length s → get_or s 0 0 ≡ 48 → Err Unread.Malformed ≡ number_in s
unfolding number_in headed
zero_in_front [] h z = absurd (omega arith)
zero_in_front (b ∷ []) h z = absurd (omega arith)
zero_in_front (b ∷ d ∷ s) h z = simp (eq-eqb b 48 z)

pub several_read : (s : List ℕ) → 1 < length s → (get_or s 0 0 ≡ 48 → ⊥) → more (Ok 0) s ≡ number_in s
unfolding number_in headed
several_read [] h z = absurd (omega arith)
several_read (b ∷ []) h z = absurd (omega arith)
several_read (b ∷ d ∷ s) h z = simp (ne_eqb b 48 z)
