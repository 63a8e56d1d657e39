-- The greatest age of a type is that of one of its groups, and none is older: of the first group and the rest, the greater is met in its own part.
use Rattle.laws.proofs.{ℕ, ◌≤◌, max, Bool, true, false, cond, ◌⊎◌, ⊎_elim, inl, inr, ◌≡◌, refl, ap, subst, List, [], ◌∷◌, arith, ltb-true, ltb-false, eq-eqb, ltb}
use mathlib.Core.List.{Memᴰ}
use Rattle.forest.specs.{Forest, order_of}
use Rattle.forest.proofs.Laws.{same_type_lem}
use Rattle.land_groups.specs.{Group, of_type}
use Rattle.land_ages.specs.{greatest_age}

-- some group of the type has this age
pub record Has (gs : List Group) (forest : Forest) (age : ℕ) : Type 0 where
  pub group : Group
  pub listed : Memᴰ group gs
  pub its_type : group.forest ≡ forest
  pub its_age : group.age ≡ age

-- and none is older
pub record Oldest (gs : List Group) (forest : Forest) (age : ℕ) : Type 0 where
  pub one : Has gs forest age
  pub none_older : (h : Group) → Memᴰ h gs → h.forest ≡ forest → h.age ≤ age

pub of_its_type : (forest : Forest) (g : Group) → g.forest ≡ forest → of_type forest g ≡ true
of_its_type forest g e = eq-eqb (order_of g.forest) (order_of forest) (ap order_of e)

module _ (forest : Forest) where
  not_passed : (gs : List Group) (h : Group) → Memᴰ h gs → of_type forest h ≡ true → h.age ≤ greatest_age gs forest
  unfolding greatest_age
  not_passed [] h x'' t = elim x'' [ ]
  not_passed (g ∷ gs) h (Memᴰ.head e) t = rw (← e, t) (omega arith)
  not_passed (g ∷ gs) h (Memᴰ.tail m) t = omega (arith, not_passed gs h m t)

  -- an age that is nought, or a group's
  abbrev Met : List Group → ℕ → Type 0
  Met gs age = (age ≡ 0) ⊎ Has gs forest age

  met_further : (g : Group) (gs : List Group) (age : ℕ) → Met gs age → Met (g ∷ gs) age
  met_further g gs age met =
      ⊎_elim inl (λ (has : Has gs forest age). inr (record {
        group = has.group;
        listed = Memᴰ.tail has.listed;
        its_type = has.its_type;
        its_age = has.its_age;
      })) met

  greatest_met : (gs : List Group) → Met gs (greatest_age gs forest)
  unfolding greatest_age
  greatest_met [] = inl refl
  greatest_met (g ∷ gs) = go (of_type forest g) refl (ltb g.age rest) refl (met_further g gs rest (greatest_met gs))
    where
      rest : ℕ
      rest = greatest_age gs forest

      go : (t : Bool) → of_type forest g ≡ t → (less : Bool) → ltb g.age rest ≡ less → Met (g ∷ gs) rest → Met (g ∷ gs) (max (cond t g.age 0) rest)
      go false t less l met = subst (Met (g ∷ gs)) (omega arith) met
      go true t true l met = subst (Met (g ∷ gs)) (omega (arith, ltb-true g.age rest l)) met
      go true t false l met = inr (record {
        group = g;
        listed = Memᴰ.head refl;
        its_type = same_type_lem g.forest forest t;
        its_age = omega (arith, ltb-false g.age rest l);
      })

-- a type that has a group has an oldest
pub oldest : (forest : Forest) (gs : List Group) (g : Group) → Memᴰ g gs → g.forest ≡ forest → Oldest gs forest (greatest_age gs forest)
oldest forest gs g m e = record {
  one = ⊎_elim (λ (z : greatest_age gs forest ≡ 0). record { group = g; listed = m; its_type = e; its_age = omega (arith, reached g m e) }) (λ has. has) (greatest_met forest gs);
  none_older = reached;
}
  where
    reached : (h : Group) → Memᴰ h gs → h.forest ≡ forest → h.age ≤ greatest_age gs forest
    reached h m e = not_passed forest gs h m (of_its_type forest h e)
