-- Tests joined: one holds where another does, or just when it does.
use Rattle.std.specs.Bool.{beq}
use Rattle.laws.proofs.{ℕ, Bool, true, false, not, ◌||◌, ◌≡◌, refl, sym, eqb, eqb-true, eqb-false, eq-eqb, ne_eqb}
use Rattle.laws.proofs.Elements.{clash}

-- "equal if withdrawn": a number equals another where a test holds
module _ (t : Bool) (a b : ℕ) where
  pub if_read : (not t || eqb a b) ≡ true → t ≡ true → a ≡ b
  if_read h e = eqb-true a b (go t e h)
    where
      go : (s : Bool) → s ≡ true → (not s || eqb a b) ≡ true → eqb a b ≡ true
      go true e h = h
      go false e h = clash (sym e)

  pub if_so : (t ≡ true → a ≡ b) → (not t || eqb a b) ≡ true
  if_so f = go t f
    where
      go : (s : Bool) → (s ≡ true → a ≡ b) → (not s || eqb a b) ≡ true
      go true f = eq-eqb a b (f refl)
      go false f = refl

-- "equals it just when": two equations hold together
module _ (a b c d : ℕ) where
  pub just_when_read : beq (eqb a b) (eqb c d) ≡ true → c ≡ d → a ≡ b
  just_when_read h e = go (eqb a b) refl (eqb c d) (eq-eqb c d e) h
    where
      go : (s : Bool) → eqb a b ≡ s → (t : Bool) → t ≡ true → beq s t ≡ true → a ≡ b
      go true p t q h = eqb-true a b p
      go false p true q h = clash (sym h)
      go false p false q h = clash (sym q)

  pub just_when : (a ≡ b → c ≡ d) → (c ≡ d → a ≡ b) → beq (eqb a b) (eqb c d) ≡ true
  just_when f g = go (eqb a b) refl
    where
      go : (s : Bool) → eqb a b ≡ s → beq s (eqb c d) ≡ true
      go true p = rw (eq-eqb c d (f (eqb-true a b p)))
      go false p = rw (ne_eqb c d (λ e. eqb-false a b p (g e)))
