-- The digits of a number: what is known of them without unfolding the definition again.
use Rattle.laws.proofs.{ℕ, zero, suc, ◌+◌, ◌*◌, ◌/◌, ◌%◌, ◌^◌, ◌≤◌, ◌<◌, ◌≡◌, refl, ap, ◌∙◌, cond, List, [], ◌∷◌, ◌++◌, append_assoc, ⊎_elim, arith, lt-ltb, le-ltb, ltb, length, get_or, length-append}
use native.Mathlib.Nat.{pow-suc}
use lib.ListN.{get_or-append}
use Rattle.laws.proofs.Order.{below_or_not}
use Rattle.text.specs.{digits_in, digits}

-- how many steps there are does not matter, if they are enough
steps : (f g n : ℕ) → n ≤ f → n ≤ g → digits_in f n ≡ digits_in g n
unfolding digits_in
steps zero zero n hf hg = refl
steps zero (suc g) n hf hg = simp (lt-ltb n 10 (omega arith))
steps (suc f) zero n hf hg = simp (lt-ltb n 10 (omega arith))
steps (suc f) (suc g) n hf hg =
    ap (λ (l : List ℕ). cond (ltb n 10) ((48 + n) ∷ []) (l ++ ((48 + n % 10) ∷ []))) (steps f g (n / 10) (omega arith) (omega arith))

pub digits_small : (n : ℕ) → n < 10 → digits n ≡ (48 + n) ∷ []
unfolding digits digits_in
digits_small n h = go n
  where
    go : (f : ℕ) → digits_in f n ≡ (48 + n) ∷ []
    go zero = refl
    go (suc f) = simp (lt-ltb n 10 h)

pub digits_step : (n : ℕ) → 10 ≤ n → digits n ≡ digits (n / 10) ++ ((48 + n % 10) ∷ [])
unfolding digits digits_in
digits_step n h = go n (omega arith)
  where
    go : (f : ℕ) → n ≤ f → digits_in f n ≡ digits_in (n / 10) (n / 10) ++ ((48 + n % 10) ∷ [])
    go zero hf = absurd (omega arith)
    go (suc f) hf = simp (le-ltb n 10 h) (ap (λ (l : List ℕ). l ++ ((48 + n % 10) ∷ [])) (steps f (n / 10) (n / 10) (omega arith) (omega arith)))

-- the two digits of a number below a hundred
abbrev pub two : ℕ → List ℕ
two n = (48 + n / 10) ∷ (48 + n % 10) ∷ []

-- a number of two digits, of more, and of three, four and more than four
pub digits_two : (n : ℕ) → 10 ≤ n → n < 100 → digits n ≡ two n
digits_two n l h = digits_step n l ∙ ap (λ (ds : List ℕ). ds ++ ((48 + n % 10) ∷ [])) (digits_small (n / 10) (omega arith))

digits_two_more : (n : ℕ) → 100 ≤ n → digits n ≡ digits (n / 100) ++ two (n % 100)
digits_two_more n h =
    let hundredth : n / 10 / 10 ≡ n / 100 = omega arith in
    let tens : n / 10 % 10 ≡ n % 100 / 10 = omega arith in
    let ones : n % 10 ≡ n % 100 % 10 = omega arith in
    digits_step n (omega arith)
    ∙ ap (λ (ds : List ℕ). ds ++ ((48 + n % 10) ∷ [])) (digits_step (n / 10) (omega arith) ∙ ap (λ (k : ℕ). digits k ++ ((48 + n / 10 % 10) ∷ [])) hundredth)
    ∙ append_assoc (digits (n / 100)) ((48 + n / 10 % 10) ∷ []) ((48 + n % 10) ∷ [])
    ∙ ap (λ (k : ℕ). digits (n / 100) ++ ((48 + k) ∷ (48 + n % 10) ∷ [])) tens ∙ ap (λ (k : ℕ). digits (n / 100) ++ ((48 + n % 100 / 10) ∷ (48 + k) ∷ [])) ones

pub digits_three : (n : ℕ) → 100 ≤ n → n < 1000 → digits n ≡ ((48 + n / 100) ∷ []) ++ two (n % 100)
digits_three n l h = digits_two_more n l ∙ ap (λ (ds : List ℕ). ds ++ two (n % 100)) (digits_small (n / 100) (omega arith))

pub digits_four : (n : ℕ) → 1000 ≤ n → n < 10000 → digits n ≡ two (n / 100) ++ two (n % 100)
digits_four n l h = digits_two_more n (omega arith) ∙ ap (λ (ds : List ℕ). ds ++ two (n % 100)) (digits_two (n / 100) (omega arith) (omega arith))

pub digits_four_more : (n : ℕ) → 10000 ≤ n → digits n ≡ (digits (n / 10000) ++ two (n % 10000 / 100)) ++ two (n % 10000 % 100)
digits_four_more n h =
    let far : n / 100 / 100 ≡ n / 10000 = omega arith in
    let high : n / 100 % 100 ≡ n % 10000 / 100 = omega arith in
    let low : n % 100 ≡ n % 10000 % 100 = omega arith in
    digits_two_more n (omega arith) ∙ ap (λ (ds : List ℕ). ds ++ two (n % 100)) (digits_two_more (n / 100) (omega arith))
    ∙ ap (λ (k : ℕ). (digits k ++ two (n / 100 % 100)) ++ two (n % 100)) far
    ∙ ap (λ (k : ℕ). (digits (n / 10000) ++ two k) ++ two (n % 100)) high ∙ ap (λ (k : ℕ). (digits (n / 10000) ++ two (n % 10000 / 100)) ++ two k) low

-- a digit behind a number's digits
pub digits_snoc : (v d : ℕ) → 0 < v → d < 10 → digits (v * 10 + d) ≡ digits v ++ ((48 + d) ∷ [])
digits_snoc v d hv hd =
    let q : (v * 10 + d) / 10 ≡ v = omega arith in
    let r : (v * 10 + d) % 10 ≡ d = omega arith in
    digits_step (v * 10 + d) (omega arith) ∙ ap (λ (k : ℕ). digits k ++ ((48 + (v * 10 + d) % 10) ∷ [])) q ∙ ap (λ (k : ℕ). digits v ++ ((48 + k) ∷ [])) r

-- the induction on which what holds of all digits rests
pub digits_ind : (P : ℕ → Type 0) → ((n : ℕ) → n < 10 → P n) → ((n : ℕ) → 10 ≤ n → P (n / 10) → P n) → (n : ℕ) → P n
digits_ind P small step n = go n n (omega arith)
  where
    go : (f n : ℕ) → n ≤ f → P n
    go zero n h = small n (omega arith)
    go (suc f) n h = ⊎_elim (λ s. small n s) (λ l. step n l (go f (n / 10) (omega arith))) (below_or_not n 10)

pub length-digits_small : (n : ℕ) → n < 10 → length (digits n) ≡ 1
length-digits_small n h = ap length (digits_small n h)

pub length-digits_step : (n : ℕ) → 10 ≤ n → length (digits n) ≡ length (digits (n / 10)) + 1
length-digits_step n h = ap length (digits_step n h) ∙ length-append (digits (n / 10)) ((48 + n % 10) ∷ [])

pub digits-some : (n : ℕ) → 0 < length (digits n)
digits-some = digits_ind (λ n. 0 < length (digits n)) (λ n h. omega (arith, length-digits_small n h)) (λ n h ih. omega (arith, length-digits_step n h))

-- the first digit is no zero, but that of 0
pub digits_head : (n : ℕ) → 0 < n → 48 < get_or (digits n) 0 0
digits_head =
    digits_ind (λ n. 0 < n → 48 < get_or (digits n) 0 0)
    (λ n h p. rw (digits_small n h) (omega arith))
    (λ n h ih p. rw (digits_step n h, get_or-append (digits (n / 10)) ((48 + n % 10) ∷ []) 0 0 (digits-some (n / 10))) (ih (omega arith)))

-- a number below 10 ^ (k + 1) has at most k + 1 digits
pub length-digits_le : (k n : ℕ) → n < 10 ^ suc k → length (digits n) ≤ suc k
length-digits_le zero n h = omega (arith, length-digits_small n h)
length-digits_le (suc k) n h =
    ⊎_elim
    (λ s. omega (arith, length-digits_small n s))
    (λ l. let p = pow-suc 10 (suc k) in omega (arith, length-digits_step n l, length-digits_le k (n / 10) (omega arith)))
    (below_or_not n 10)
