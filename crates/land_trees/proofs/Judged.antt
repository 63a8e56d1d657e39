-- What a list that is not refused keeps: a clear verdict was clear at every case.
use Rattle.std.specs.Prelude.{Ok}
use Rattle.laws.proofs.{ℕ, ◌≤◌, ◌<◌, Bool, true, false, not, ◌&&◌, ◌||◌, ◌≡◌, refl, sym, List, arith, ltb-false, eqb-false, eq-eqb, eqb, ltb}
use mathlib.Core.List.{Memᴰ}
use Rattle.laws.specs.{some}
use Rattle.laws.proofs.Elements.{or_false_left, or_false_right, none_passes}
use Rattle.refusals.specs.{Verdict, weighed, weigh_all, smallest, Refusal}
use Rattle.refusals.proofs.Laws.{clear_before, clear_last}
use Rattle.forest.proofs.Laws.{same_type_lem}
use Rattle.land_groups.specs.{Group, of_species, of_type, area}
use Rattle.land_trees.specs.{out_of_range, other_type, cases}

pub record InRange (g : Group) : Type 0 where
  pub age : g.age ≤ 300
  pub some-area : 0 < area g
  pub most_area : area g ≤ 1000000

-- a list that is not refused
pub record Judged (count : ℕ) (gs : List Group) : Type 0 where
  pub at_least : 0 < count
  pub at_most : count ≤ 64
  pub ranges : (g : Group) → Memᴰ g gs → InRange g
  pub one_type : (g h : Group) → Memᴰ g gs → Memᴰ h gs → h.species ≡ g.species → h.forest ≡ g.forest

in_range : (g : Group) → out_of_range g ≡ false → InRange g
in_range g e =
    let left : (ltb 300 g.age || eqb (area g) 0) ≡ false = or_false_left (ltb 300 g.age || eqb (area g) 0) (ltb 1000000 (area g)) e in
    record {
      age = ltb-false 300 g.age (or_false_left (ltb 300 g.age) (eqb (area g) 0) left);
      some-area = let z : area g ≡ 0 → ⊥ = eqb-false (area g) 0 (or_false_right (ltb 300 g.age) (eqb (area g) 0) left) in omega arith;
      most_area = ltb-false 1000000 (area g) (or_false_right (ltb 300 g.age || eqb (area g) 0) (ltb 1000000 (area g)) e);
    }

and_not : (a b : Bool) → a ≡ true → (a && not b) ≡ false → b ≡ true
and_not true true e f = refl
and_not true false e f = sym f
and_not false b e f = absurd (let z : ◌≡◌ {A = ℕ} 0 1 = cc in omega arith)

one_type : (g h : Group) → other_type g h ≡ false → h.species ≡ g.species → h.forest ≡ g.forest
one_type g h e s = same_type_lem h.forest g.forest (and_not (of_species g.species h) (of_type g.forest h) (eq-eqb h.species g.species s) e)

pub judged : (count : ℕ) (bare : Bool) (gs : List Group) → smallest (cases count bare gs) ≡ Ok tt → Judged count gs
unfolding smallest weigh_all cases
judged count bare gs e = record {
  at_least = let z : count ≡ 0 → ⊥ = eqb-false count 0 (or_false_left (eqb count 0) (ltb 64 count) number) in omega arith;
  at_most = ltb-false 64 count (or_false_right (eqb count 0) (ltb 64 count) number);
  ranges = λ g m. in_range g (none_passes out_of_range g gs range m);
  one_type = λ g h m n. one_type g h (none_passes (other_type g) h gs (none_passes (λ k. some (other_type k) gs) g gs types m) n);
}
  where
    v1 : Verdict
    v1 = weighed (Ok tt) bare Refusal.ForestType

    v2 : Verdict
    v2 = weighed v1 (eqb count 0 || ltb 64 count) Refusal.TreeList

    v3 : Verdict
    v3 = weighed v2 (some out_of_range gs) Refusal.TreeList

    types : some (λ g. some (other_type g) gs) gs ≡ false
    types = clear_last v3 (some (λ g. some (other_type g) gs) gs) Refusal.TreeList e

    clear3 : v3 ≡ Ok tt
    clear3 = clear_before v3 (some (λ g. some (other_type g) gs) gs) Refusal.TreeList e

    range : some out_of_range gs ≡ false
    range = clear_last v2 (some out_of_range gs) Refusal.TreeList clear3

    number : (eqb count 0 || ltb 64 count) ≡ false
    number = clear_last v1 (eqb count 0 || ltb 64 count) Refusal.TreeList (clear_before v2 (some out_of_range gs) Refusal.TreeList clear3)
