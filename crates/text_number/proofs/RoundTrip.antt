-- The digits of a number are read as that number, and only its digits are.
use Rattle.std.specs.Prelude.{Ok, Err}
use Rattle.laws.proofs.{ℕ, ◌+◌, ◌*◌, ◌-◌, ◌/◌, ◌%◌, ◌≤◌, ◌<◌, ◌≡◌, refl, sym, ap, ◌∙◌, Bool, true, false, cond, not, ◌&&◌, List, [], ◌∷◌, ◌++◌, append_assoc, append-nil, ⊎_elim, arith, lt-ltb, le-ltb, leb-true, eqb-false, ltb, leb, eqb}
use Rattle.laws.proofs.Order.{below_or_not}
use Rattle.text.specs.{digits}
use Rattle.text.proofs.Digits.{digits_small, digits_step, digits_snoc, digits_ind, digits-some, digits_head, length-digits_small, length-digits_step}
use Rattle.text_number.specs.{Number, Unread, room, append_digit, append, more, headed, number_in}
use Rattle.text_number.proofs.Laws.{append_digit_lem, one_read, several_read}

-- a number as it is read: with its value where it has at most fifteen digits
unfoldable pub read_as : ℕ → Number
read_as n = cond (ltb n (room * 10)) (Ok n) (Err Unread.Large)

append-read : (v d : ℕ) → d < 10 → append (read_as v) (48 + d) ≡ read_as (v * 10 + d)
unfolding read_as
append-read v d h =
    let e : 48 + d - 48 ≡ d = omega arith in
    sym (append_digit_lem (cond (ltb v (room * 10)) (Ok v) (Err Unread.Large)) (48 + d) (omega arith) (omega arith))
    ∙ ap (append_digit (cond (ltb v (room * 10)) (Ok v) (Err Unread.Large))) e
    ∙ ⊎_elim
    (λ small. simp (lt-ltb v (room * 10) (omega arith), lt-ltb v room small, lt-ltb (v * 10 + d) (room * 10) (omega arith)))
    (λ full.
    ⊎_elim
    (λ below. simp (lt-ltb v (room * 10) below, le-ltb v room full, le-ltb (v * 10 + d) (room * 10) (omega arith)))
    (λ above. simp (le-ltb v (room * 10) above, le-ltb (v * 10 + d) (room * 10) (omega arith)))
    (below_or_not v (room * 10)))
    (below_or_not v room)

more-append : (n : Number) (xs ys : List ℕ) → more n (xs ++ ys) ≡ more (more n xs) ys
unfolding more
more-append n [] ys = refl
more-append n (x ∷ xs) ys = more-append (append n x) xs ys

more_one : (n : Number) (b : ℕ) → more n (b ∷ []) ≡ append n b
unfolding more
more_one n b = refl

zero_read : Ok 0 ≡ read_as 0
unfolding read_as
zero_read = refl

more-digits : (n : ℕ) → more (Ok 0) (digits n) ≡ read_as n
more-digits =
    digits_ind (λ n. more (Ok 0) (digits n) ≡ read_as n)
    (λ n h. ap (more (Ok 0)) (digits_small n h) ∙ more_one (Ok 0) (48 + n) ∙ ap (λ (m : Number). append m (48 + n)) zero_read ∙ append-read 0 n h ∙ ap read_as (omega arith))
    (λ n h ih.
    let e : n / 10 * 10 + n % 10 ≡ n = omega arith in
    ap (more (Ok 0)) (digits_step n h) ∙ more-append (Ok 0) (digits (n / 10)) ((48 + n % 10) ∷ [])
    ∙ ap (λ (m : Number). more m ((48 + n % 10) ∷ [])) ih ∙ more_one (read_as (n / 10)) (48 + n % 10)
    ∙ append-read (n / 10) (n % 10) (omega arith) ∙ ap read_as e)

pub digits-read : (n : ℕ) → number_in (digits n) ≡ read_as n
digits-read n =
    ⊎_elim
    (λ s. sym (one_read (digits n) (length-digits_small n s)) ∙ more-digits n)
    (λ l. sym (several_read (digits n) (omega (arith, length-digits_step n l, digits-some (n / 10))) (λ z. omega (arith, digits_head n (omega arith)))) ∙ more-digits n)
    (below_or_not n 10)

pub there_and_back : (n : ℕ) → n < room * 10 → number_in (digits n) ≡ Ok n
unfolding read_as
there_and_back n h = digits-read n ∙ simp (lt-ltb n (room * 10) h)

-- ---- only digits are read

-- no value comes of what is large or malformed
pub stuck : (n : Number) (bs : List ℕ) (v : ℕ) → more n bs ≡ Ok v → (n ≡ Err Unread.Large → ⊥) × (n ≡ Err Unread.Malformed → ⊥)
unfolding more append
stuck n [] v e = ((λ q. let z : ◌≡◌ {A = ℕ} 0 1 = cc in omega arith), (λ q. let z : ◌≡◌ {A = ℕ} 0 1 = cc in omega arith))
stuck n (b ∷ bs) v e = go (leb 48 b && leb b 57) (stuck (append n b) bs v e)
  where
    go : (t : Bool) → (cond t (append_digit n (b - 48)) (Err Unread.Malformed) ≡ Err Unread.Large → ⊥) × (cond t (append_digit n (b - 48)) (Err Unread.Malformed) ≡ Err Unread.Malformed → ⊥)
        → (n ≡ Err Unread.Large → ⊥) × (n ≡ Err Unread.Malformed → ⊥)
    go true h = ((λ q. h.0 (ap (λ (m : Number). append_digit m (b - 48)) q)), (λ q. h.1 (ap (λ (m : Number). append_digit m (b - 48)) q)))
    go false h = absurd (h.1 refl)

-- a byte that a value is read from is a digit, and the rest is read behind it
digit_of_lem : (v b : ℕ) (bs : List ℕ) (n : ℕ) → more (Ok v) (b ∷ bs) ≡ Ok n → (48 ≤ b) × (b ≤ 57) × (more (Ok (v * 10 + (b - 48))) bs ≡ Ok n)
unfolding more append
digit_of_lem v b bs n e = go (leb 48 b) refl (leb b 57) refl (ltb v room) e (stuck (append (Ok v) b) bs n e)
  where
    go : (l : Bool) → leb 48 b ≡ l → (h : Bool) → leb b 57 ≡ h → (r : Bool)
        → more (cond (l && h) (cond r (Ok (v * 10 + (b - 48))) (Err Unread.Large)) (Err Unread.Malformed)) bs ≡ Ok n
        → (cond (l && h) (cond r (Ok (v * 10 + (b - 48))) (Err Unread.Large)) (Err Unread.Malformed) ≡ Err Unread.Large → ⊥) × (cond (l && h) (cond r (Ok (v * 10 + (b - 48))) (Err Unread.Large)) (Err Unread.Malformed) ≡ Err Unread.Malformed → ⊥)
        → (48 ≤ b) × (b ≤ 57) × (more (Ok (v * 10 + (b - 48))) bs ≡ Ok n)
    go true p true q true e s = (leb-true 48 b p, leb-true b 57 q, e)
    go true p true q false e s = absurd (s.0 refl)
    go true p false q r e s = absurd (s.1 refl)
    go false p h q r e s = absurd (s.1 refl)

end_of_lem : (v n : ℕ) → more (Ok v) [] ≡ Ok n → v ≡ n
unfolding more
end_of_lem v n e = cc

-- what is read behind a number that is not 0 is the digits that follow its own
digits-behind : (v : ℕ) (bs : List ℕ) (n : ℕ) → 0 < v → more (Ok v) bs ≡ Ok n → digits v ++ bs ≡ digits n
digits-behind v [] n hv e = append-nil (digits v) ∙ ap digits (end_of_lem v n e)
digits-behind v (b ∷ bs) n hv e =
    let d = digit_of_lem v b bs n e in
    let m : 48 + (b - 48) ≡ b = omega arith in
    ap (λ (k : ℕ). digits v ++ (k ∷ bs)) (sym m)
    ∙ sym (append_assoc (digits v) ((48 + (b - 48)) ∷ []) bs)
    ∙ ap (λ (k : List ℕ). k ++ bs) (sym (digits_snoc v (b - 48) hv (omega arith)))
    ∙ digits-behind (v * 10 + (b - 48)) bs n (omega arith) d.2

first : (b : ℕ) → 48 ≤ b → b ≤ 57 → digits (0 * 10 + (b - 48)) ≡ b ∷ []
first b l u =
    let m : 48 + (0 * 10 + (b - 48)) ≡ b = omega arith in
    digits_small (0 * 10 + (b - 48)) (omega arith) ∙ ap (λ (k : ℕ). k ∷ []) m

positive : (b : ℕ) → 48 ≤ b → (b ≡ 48 → ⊥) → 0 < b - 48
positive b l ne = ⊎_elim (λ lt. absurd (ne (omega arith))) (λ le. omega arith) (below_or_not b 49)

pub canonical : (bs : List ℕ) (n : ℕ) → number_in bs ≡ Ok n → bs ≡ digits n
unfolding number_in headed
canonical [] n e = let z : ◌≡◌ {A = ℕ} 0 1 = cc in absurd (omega arith)
canonical (b ∷ []) n e =
    let d = digit_of_lem 0 b [] n e in
    sym (first b d.0 d.1) ∙ ap digits (end_of_lem (0 * 10 + (b - 48)) n d.2)
canonical (b ∷ c ∷ bs) n e = go (eqb b 48) refl e
  where
    go : (t : Bool) → eqb b 48 ≡ t → cond (not t) (more (Ok 0) (b ∷ c ∷ bs)) (Err Unread.Malformed) ≡ Ok n → b ∷ c ∷ bs ≡ digits n
    go true p q = let z : ◌≡◌ {A = ℕ} 0 1 = cc in absurd (omega arith)
    go false p q =
        let d = digit_of_lem 0 b (c ∷ bs) n q in
        let nz : 0 < b - 48 = positive b d.0 (eqb-false b 48 p) in
        ap (λ (l : List ℕ). l ++ c ∷ bs) (sym (first b d.0 d.1)) ∙ digits-behind (0 * 10 + (b - 48)) (c ∷ bs) n (omega arith) d.2
