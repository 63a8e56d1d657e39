-- Tests over a whole list: where none passes, no element does; what is kept is what passes; and so of two lists, one behind the other.
use Prim.Native.Nat.{ℕ}
use mathlib.Core.Bool.{Bool, true, false, cond, ◌||◌}
use mathlib.Core.Path.{◌≡◌, refl, sym, ap, ◌∙◌}
use mathlib.Core.List.{List, [], ◌∷◌, ◌++◌, foldl, Memᴰ}
use native.Mathlib.Omega.{arith}
use Rattle.laws.specs.{some, keep, every}
use Rattle.laws.proofs.Lists.{and_left, and_right, both}

-- no test holds and fails
pub clash : {P : Type 0} → ◌≡◌ {A = Bool} true false → P
clash e = absurd (let z : ◌≡◌ {A = ℕ} 0 1 = cc in omega arith)

pub or_false_left : (a b : Bool) → (a || b) ≡ false → a ≡ false
or_false_left true b e = e
or_false_left false b e = refl

pub or_false_right : (a b : Bool) → (a || b) ≡ false → b ≡ false
or_false_right true true e = e
or_false_right true false e = refl
or_false_right false b e = e

pub or_assoc : (a b c : Bool) → ((a || b) || c) ≡ (a || (b || c))
or_assoc true b c = refl
or_assoc false b c = refl

pub or_none : (a : Bool) → (a || false) ≡ a
or_none true = refl
or_none false = refl

-- two tests that tell each other are one
pub same_test : (a b : Bool) → (a ≡ true → b ≡ true) → (b ≡ true → a ≡ true) → a ≡ b
same_test true b f g = sym (f refl)
same_test false true f g = g refl
same_test false false f g = refl

module _ {A : Type 0} (p : A → Bool) where
  pub none_passes : (a : A) (l : List A) → some p l ≡ false → Memᴰ a l → p a ≡ false
  unfolding some
  none_passes a [] e m = elim m [ ]
  none_passes a (b ∷ l) e (Memᴰ.head q) = ap p q ∙ or_false_left (p b) (some p l) e
  none_passes a (b ∷ l) e (Memᴰ.tail m) = none_passes a l (or_false_right (p b) (some p l) e) m

  -- what is kept is listed and passes, and what is listed and passes is kept
  pub kept-listed : (a : A) (l : List A) → Memᴰ a (keep p l) → Memᴰ a l × (p a ≡ true)
  unfolding keep
  kept-listed a [] m = elim m [ ]
  kept-listed a (b ∷ l) m = go (p b) refl m (kept-listed a l)
    where
      go : (t : Bool) → p b ≡ t → Memᴰ a (cond t (b ∷ keep p l) (keep p l)) → (Memᴰ a (keep p l) → Memᴰ a l × (p a ≡ true)) → Memᴰ a (b ∷ l) × (p a ≡ true)
      go true e (Memᴰ.head q) rest = (Memᴰ.head q, ap p q ∙ e)
      go true e (Memᴰ.tail n) rest = (Memᴰ.tail (rest n).0, (rest n).1)
      go false e n rest = (Memᴰ.tail (rest n).0, (rest n).1)

  pub listed_kept : (a : A) (l : List A) → Memᴰ a l → p a ≡ true → Memᴰ a (keep p l)
  unfolding keep
  listed_kept a [] m e = elim m [ ]
  listed_kept a (b ∷ l) (Memᴰ.head q) e = rw (← (ap p q), e) (Memᴰ.head q)
  listed_kept a (b ∷ l) (Memᴰ.tail m) e = go (p b) (listed_kept a l m e)
    where
      go : (t : Bool) → Memᴰ a (keep p l) → Memᴰ a (cond t (b ∷ keep p l) (keep p l))
      go true n = Memᴰ.tail n
      go false n = n

  -- a fold over what is kept passes over the rest
  pub fold-keep : {B : Type 0} (f : B → A → B) (b : B) (l : List A) → foldl f b (keep p l) ≡ foldl (λ c a. cond (p a) (f c a) c) b l
  unfolding keep
  fold-keep f b [] = refl
  fold-keep f b (a ∷ l) = go (p a) (λ c. fold-keep f c l)
    where
      go : (t : Bool) → ((c : _) → foldl f c (keep p l) ≡ foldl (λ c a. cond (p a) (f c a) c) c l)
          → foldl f b (cond t (a ∷ keep p l) (keep p l)) ≡ foldl (λ c a. cond (p a) (f c a) c) (cond t (f b a) b) l
      go true rest = rest (f b a)
      go false rest = rest b

  pub keep_append : (l m : List A) → keep p (l ++ m) ≡ keep p l ++ keep p m
  unfolding keep
  keep_append [] m = refl
  keep_append (a ∷ l) m = go (p a) (keep_append l m)
    where
      go : (t : Bool) → keep p (l ++ m) ≡ keep p l ++ keep p m → cond t (a ∷ keep p (l ++ m)) (keep p (l ++ m)) ≡ cond t (a ∷ keep p l) (keep p l) ++ keep p m
      go true e = ap (λ (k : List A). a ∷ k) e
      go false e = e

  pub every_append : (l m : List A) → every p l ≡ true → every p m ≡ true → every p (l ++ m) ≡ true
  unfolding every
  every_append [] m e f = f
  every_append (a ∷ l) m e f = both _ _ (and_left (p a) (every p l) e) (every_append l m (and_right (p a) (every p l) e) f)
