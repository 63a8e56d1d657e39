-- The best of a list, chosen by setting each further element against the best so far: it is in the list, and ahead of every element.
-- Of two the one chosen is ahead of both, and being ahead carries over.
use Prim.Native.Nat.{ℕ, ◌≤◌}
use mathlib.Core.Bool.{Bool, true, false, ◌&&◌, ◌||◌}
use mathlib.Core.Logic.{◌⊎◌, ⊎_elim}
use mathlib.Core.Path.{◌≡◌, refl, ◌∙◌}
use mathlib.Core.List.Memᴰ
use mathlib.Core.List.{List, [], ◌∷◌, foldl, Memᴰ}
use native.Mathlib.Omega.{arith}
use borrow.Author.Tests.{ltb-true, ltb-false, eqb-true, eqb-false}
use lib.Dec.{eqb, ltb}
use Rattle.laws.specs.{outranks}

-- of two, one is chosen that is ahead of both
pub record Choice {A : Type 0} (Ahead : A → A → Type 0) (best a chosen : A) : Type 0 where
  pub one : (chosen ≡ best) ⊎ (chosen ≡ a)
  pub over_best : Ahead chosen best
  pub over_other : Ahead chosen a

pub record Best {A : Type 0} (Ahead : A → A → Type 0) (l : List A) (best : A) : Type 0 where
  pub listed : Memᴰ best l
  pub ahead : (a : A) → Memᴰ a l → Ahead best a

-- each is ahead of itself, and being ahead carries over
pub record Order {A : Type 0} (Ahead : A → A → Type 0) : Type 0 where
  pub self : (a : A) → Ahead a a
  pub carries : (a b c : A) → Ahead a b → Ahead b c → Ahead a c

module _ {A : Type 0} (Ahead : A → A → Type 0) (order : Order Ahead) (choose : A → A → A) (choice : (best a : A) → Choice Ahead best a (choose best a)) where
  one_more : (first a : A) (l : List A) (best : A) → Best Ahead (choose first a ∷ l) best → Best Ahead (first ∷ a ∷ l) best
  one_more first a l best k = record { listed = within k.listed; ahead = over }
    where
      next : A
      next = choose first a

      within : Memᴰ best (next ∷ l) → Memᴰ best (first ∷ a ∷ l)
      within (Memᴰ.head e) =
          ⊎_elim (λ (f : next ≡ first). Memᴰ.head (e ∙ f)) (λ (f : next ≡ a). Memᴰ.tail (Memᴰ.head (e ∙ f))) (choice first a).one
      within (Memᴰ.tail m) = Memᴰ.tail (Memᴰ.tail m)

      over-next : Ahead best next
      over-next = k.ahead next (Memᴰ.head refl)

      over : (b : A) → Memᴰ b (first ∷ a ∷ l) → Ahead best b
      over b (Memᴰ.head e) = rw e (order.carries best next first over-next (choice first a).over_best)
      over b (Memᴰ.tail (Memᴰ.head e)) = rw e (order.carries best next a over-next (choice first a).over_other)
      over b (Memᴰ.tail (Memᴰ.tail m)) = k.ahead b (Memᴰ.tail m)

  pub chosen_best : (first : A) (l : List A) → Best Ahead (first ∷ l) (foldl choose first l)
  chosen_best first [] = record {
    listed = Memᴰ.head refl;
    ahead = λ a m. ⊎_elim (λ (e : a ≡ first). rw e (order.self first)) (λ (n : Memᴰ a []). absurd (Memᴰ.not-nil n)) (Memᴰ.cases_cons m);
  }
  chosen_best first (a ∷ l) = one_more first a l (foldl choose first (a ∷ l)) (chosen_best (choose first a) l)

-- what it says of two numbers that one outranks the other, or does not
pub outranks_true : (a b : ℕ) (tie : Bool) → outranks a b tie ≡ true → (b ≤ a) × (b ≡ a → tie ≡ true)
outranks_true a b tie e = go (ltb b a) refl (eqb a b) refl e
  where
    go : (p : Bool) → ltb b a ≡ p → (q : Bool) → eqb a b ≡ q → (p || (q && tie)) ≡ true → (b ≤ a) × (b ≡ a → tie ≡ true)
    go true p q r e = (omega (arith, ltb-true b a p), λ z. absurd (omega (arith, ltb-true b a p)))
    go false p true r e = (omega (arith, eqb-true a b r), λ z. e)
    go false p false r e = absurd (let z : ◌≡◌ {A = ℕ} 0 1 = cc in omega arith)

pub outranks_false : (a b : ℕ) (tie : Bool) → outranks a b tie ≡ false → (a ≤ b) × (a ≡ b → tie ≡ false)
outranks_false a b tie e = go (ltb b a) refl (eqb a b) refl e
  where
    go : (p : Bool) → ltb b a ≡ p → (q : Bool) → eqb a b ≡ q → (p || (q && tie)) ≡ false → (a ≤ b) × (a ≡ b → tie ≡ false)
    go true p q r e = absurd (let z : ◌≡◌ {A = ℕ} 0 1 = cc in omega arith)
    go false p true r e = (ltb-false b a p, λ z. e)
    go false p false r e = (ltb-false b a p, λ z. absurd (eqb-false a b r z))
