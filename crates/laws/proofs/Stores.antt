-- Runs of stores into a list: what is left to store after a store, a run stored by a loop, runs that join, a run past the end or cut there,
-- and what stands then.
use Prim.Native.Nat.{ℕ, zero, suc, ◌+◌, ◌<◌, ◌≤◌}
use mathlib.Core.Path.{◌≡◌, refl, sym, ap, ◌∙◌}
use mathlib.Core.List.{List, [], ◌∷◌, ◌++◌, append_assoc}
use native.Mathlib.Numerals.{add-one}
use native.Mathlib.Nat.{zero-add, add-zero, add-suc, suc-add}
use native.Mathlib.Omega.{arith}
use lib.ListN.{length, get_or, set, take, drop, drop_of_length-le, length-append, length-take, length-drop, length-set, take-append-drop, replicate, length-replicate}
use lib.Seq.{drop-cons, sets, length-sets, sets-eq, set_out, take_at, drop-append-add, drop-drop, get_or-set_same, get_or-set_other}
use borrow.Rule.Slice.PartMut.{put_mid}
use Rattle.std.proofs.lemmas.List.Edits.{paste_all}
use Rattle.std.proofs.lemmas.Slice.{put_mid-paste}

module _ {A : Type 0} (s out : List A) where
  pub store_goes_on : (d : A) (at i : ℕ) → i < length s
      → sets (set out (at + i) (get_or s i d)) (at + (i + 1)) (drop (i + 1) s) ≡ sets out (at + i) (drop i s)
  store_goes_on d at i h =
      let step : at + (i + 1) ≡ suc (at + i) = omega arith in
      rw step (rw (add-one i) (sym (ap (sets out (at + i)) (drop-cons s i d h))))

  pub store_ends : (at i : ℕ) → length s ≤ i → out ≡ sets out (at + i) (drop i s)
  store_ends at i h = rw (drop_of_length-le s h)

  -- stored from the front, where there is room
  pub stored-in_front : length s ≤ length out → sets out 0 s ≡ s ++ drop (length s) out
  stored-in_front h = simp zero-add at (sets-eq s out 0 (omega arith))

-- stored into empty places, it stands in front
module _ {A : Type 0} (empty : A) (places : ℕ) (xs : List A) (count : ℕ) (many : length xs ≡ count) (room : count ≤ places) where
  pub stored : sets (replicate places empty) 0 xs ≡ xs ++ drop (length xs) (replicate places empty)
  stored = stored-in_front xs (replicate places empty) (omega (arith, length-replicate places empty))

  pub stored_stands : take count (sets (replicate places empty) 0 xs) ≡ xs
  stored_stands = ap (take count) stored ∙ take_at xs (drop (length xs) (replicate places empty)) count many

-- a run under way: storing what is left from i on stores all
module _ {A : Type 0} (s out₀ : List A) (at : ℕ) where
  abbrev pub Storing : List A → ℕ → Type 0
  Storing out i = (i ≤ length s) × (length out ≡ length out₀) × (sets out (at + i) (drop i s) ≡ sets out₀ at s)

  pub storing_none : Storing out₀ 0
  storing_none = (omega arith, refl, simp add-zero)

  pub storing_more : (d : A) (out : List A) (i : ℕ) → i < length s → Storing out i → Storing (set out (at + i) (get_or s i d)) (i + 1)
  storing_more d out i h k = (omega arith, simp length-set k.1, store_goes_on s out d at i h ∙ k.2)

  pub storing_all : (out : List A) (i : ℕ) → length s ≤ i → Storing out i → out ≡ sets out₀ at s
  storing_all out i h k = store_ends s out at i h ∙ k.2

-- stored behind a front that stands
pub stored-behind : {A : Type 0} (front s out : List A) (n : ℕ) → length front ≡ n → n + length s ≤ length out
    → sets (front ++ drop n out) n s ≡ (front ++ s) ++ drop (n + length s) out
stored-behind front s out n e h =
    sets-eq s (front ++ drop n out) n (simp (length-append, length-drop) (omega arith))
    ∙ ap (λ (l : List _). l ++ s ++ drop (n + length s) (front ++ drop n out)) (take_at front (drop n out) n e)
    ∙ ap (λ (l : List _). front ++ s ++ l) (ap (λ (k : ℕ). drop (k + length s) (front ++ drop n out)) (sym e) ∙ drop-append-add front (drop n out) (length s) ∙ drop-drop (length s) n out)

-- two runs, the second where the first ends, are one
pub sets-append : {A : Type 0} (l : List A) (i : ℕ) (xs ys : List A) → sets (sets l i xs) (i + length xs) ys ≡ sets l i (xs ++ ys)
sets-append l i [] ys = ap (λ (k : ℕ). sets l k ys) (add-zero i)
sets-append l i (x ∷ xs) ys =
    ap (λ (k : ℕ). sets (sets (set l i x) (suc i) xs) k ys) (add-suc i (length xs) ∙ sym (suc-add i (length xs)))
    ∙ sets-append (set l i x) (suc i) xs ys

pub sets-out : {A : Type 0} (l : List A) (i : ℕ) (xs : List A) → length l ≤ i → sets l i xs ≡ l
sets-out l i [] h = refl
sets-out l i (x ∷ xs) h =
    ap (λ (m : List _). sets m (suc i) xs) (set_out l i x h) ∙ sets-out l (suc i) xs (omega arith)

-- what lies past the end is not stored
pub sets_cut : {A : Type 0} (l : List A) (i n : ℕ) (xs : List A) → n ≤ length xs → length l ≤ i + n → sets l i (take n xs) ≡ sets l i xs
sets_cut l i n xs h k =
    let past : length (sets l i (take n xs)) ≤ i + length (take n xs) = omega (arith, length-sets l i (take n xs), length-take n xs) in
    sym (sets-out (sets l i (take n xs)) (i + length (take n xs)) (drop n xs) past)
    ∙ sets-append l i (take n xs) (drop n xs)
    ∙ ap (sets l i) (take-append-drop n xs)

-- what a run of stores leaves at a place before it
sets-before : {A : Type 0} (l : List A) (i : ℕ) (xs : List A) (j : ℕ) (d : A) → j < i → get_or (sets l i xs) j d ≡ get_or l j d
sets-before l i [] j d h = refl
sets-before l i (x ∷ xs) j d h = sets-before (set l i x) (suc i) xs j d (omega arith) ∙ get_or-set_other l i j x d (λ e. omega arith)

-- the element stored there, or what was there
pub get_d_sets : {A : Type 0} (l : List A) (i : ℕ) (xs : List A) (k : ℕ) (d : A) → i + k < length l → get_or (sets l i xs) (i + k) d ≡ get_or xs k (get_or l (i + k) d)
get_d_sets l i [] k d h = refl
get_d_sets l i (x ∷ xs) zero d h =
    let e : i + 0 ≡ i = omega arith in
    ap (λ (j : ℕ). get_or (sets (set l i x) (suc i) xs) j d) e ∙ sets-before (set l i x) (suc i) xs i d (omega arith) ∙ get_or-set_same l i x d (omega arith)
get_d_sets l i (x ∷ xs) (suc k) d h =
    let e : i + suc k ≡ suc i + k = omega arith in
    ap (λ (j : ℕ). get_or (sets (set l i x) (suc i) xs) j d) e
    ∙ get_d_sets (set l i x) (suc i) xs k d (omega (arith, length-set l i x))
    ∙ ap (get_or xs k) (get_or-set_other l i (suc i + k) x d (λ q. omega arith) ∙ ap (λ (j : ℕ). get_or l j d) (sym e))

-- what a copy into a part leaves
pub copied : {A : Type 0} (l ys xs : List A) (at k : ℕ) → ys ≡ xs → length xs ≡ k → at + k ≤ length l → put_mid at k l ys ≡ sets l at xs
copied l ys xs at k e n h =
    put_mid-paste at k l ys xs (length xs) e n refl ∙ paste_all l at xs (length xs) refl
    ∙ sym (sets-eq xs l at (omega (arith, n)) ∙ append_assoc (take at l) xs (drop (at + length xs) l))
