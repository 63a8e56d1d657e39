-- A register: an array whose first places hold numbered things, the areas of a holding or the sub-areas of an area. What a search finds in it is good;
-- it stays a register where a thing is put back under its number, and where one is added whose number a search did not find.
use Rattle.std.specs.Prelude.{Some, None, Option}
use Rattle.laws.proofs.{ℕ, zero, suc, ◌+◌, ◌-◌, ◌≤◌, ◌<◌, true, false, ◌≡◌, refl, sym, ap, ◌∙◌, List, [], ◌∷◌, ◌++◌, add-one, arith, length, get_or, set, take, drop, replicate, length-take, length-set, take-append-drop, drop-drop, get_or-take}
use lib.Seq.{drop-set-lt, take-set-lt, take-suc-set, map-set_same}
use Rattle.laws.proofs.Distinct.{distinct_more}
use Rattle.laws.specs.{distinct}
use Rattle.laws.proofs.Elements.{clash}
use Rattle.holding.specs.{place_from}
use Rattle.holding.proofs.Stands.{stands, stands_nowhere}
use Rattle.holding_look.specs.{known}
use Rattle.theorem_keeping.specs.{Tidy, Each}
use Rattle.theorem_keeping.proofs.Lists.{each_at, each_set, each_more, each_so, distinct-same}

-- what a search did not find stands nowhere
pub unknown : (found : Option ℕ) → known found ≡ false → found ≡ None
unknown (Some i) e = clash e
unknown None e = refl

module _ {A : Type 0} (empty : A) (places count : ℕ) (l : List A) (tidy : Tidy empty places count l) (a : A) where
  pub tidy_put : (i : ℕ) → i < count → Tidy empty places count (set l i a)
  tidy_put i h = record { long = length-set l i a ∙ tidy.long; unused = drop-set-lt count l i a h ∙ tidy.unused }

  pub tidy-more : Tidy empty places (count + 1) (set l count a)
  tidy-more = record { long = length-set l count a ∙ tidy.long; unused = rw add-one (drop-set-lt (suc count) l count a (omega arith) ∙ rest) }
    where
      shorter : (n : ℕ) → drop 1 (replicate n empty) ≡ replicate (n - 1) empty
      shorter zero = refl
      shorter (suc n) = let k : n ≡ suc n - 1 = omega arith in ap (λ (m : ℕ). replicate m empty) k

      one_more : count + 1 ≡ suc count
      one_more = omega arith

      one_fewer : places - count - 1 ≡ places - suc count
      one_fewer = omega arith

      rest : drop (suc count) l ≡ replicate (places - suc count) empty
      rest =
          ap (λ (n : ℕ). drop n l) (sym one_more) ∙ sym (drop-drop 1 count l) ∙ ap (drop 1) tidy.unused
          ∙ shorter (places - count) ∙ ap (λ (n : ℕ). replicate n empty) one_fewer

-- two arrays of which the same stands are the same
pub tidy-same : {A : Type 0} (empty : A) (places count : ℕ) (l m : List A) → Tidy empty places count l → Tidy empty places count m
    → take count l ≡ take count m → l ≡ m
tidy-same empty places count l m s t e =
    sym (take-append-drop count l) ∙ ap (λ (front : List _). front ++ drop count l) e
    ∙ ap (λ (back : List _). take count m ++ back) (s.unused ∙ sym t.unused) ∙ take-append-drop count m

pub record Register {A : Type 0} (number_of : A → ℕ) (empty : A) (Good : A → Type 0) (places count : ℕ) (l : List A) : Type 0 where
  pub room : count ≤ places
  pub tidy : Tidy empty places count l
  pub each : Each Good (take count l)
  pub apart : distinct number_of (take count l) ≡ true

module _ {A : Type 0} (number_of : A → ℕ) (n i count : ℕ) (l : List A) (e : place_from number_of n 0 (take count l) ≡ Some i) where
  pub found_inside : (i < count) × (i < length l)
  found_inside =
      let s = stands number_of n 0 i (take count l) e in
      let k : i ≡ 0 + s.k = s.there in
      let h : s.k < length (take count l) = s.inside in
      (omega (arith, length-take count l), omega (arith, length-take count l))

module _ {A : Type 0} {number_of : A → ℕ} {empty : A} {Good : A → Type 0} {places count : ℕ} {l : List A} (register : Register number_of empty Good places count l) where
  pub register_at : (n i : ℕ) (d : A) → place_from number_of n 0 (take count l) ≡ Some i → Good (get_or l i d)
  register_at n i d e =
      let inside = found_inside number_of n i count l e in
      rw (← get_or-take count l i d inside.0) (each_at Good (take count l) i d (omega (arith, length-take count l)) register.each)

  pub register_put : (n i : ℕ) (a d : A) → place_from number_of n 0 (take count l) ≡ Some i → number_of a ≡ number_of (get_or l i d) → Good a
      → Register number_of empty Good places count (set l i a)
  register_put n i a d e same good =
      let inside = found_inside number_of n i count l e in
      let store : take count (set l i a) ≡ set (take count l) i a = take-set-lt count l i a inside.0 in
      let there : number_of a ≡ number_of (get_or (take count l) i d) = same ∙ ap number_of (sym (get_or-take count l i d inside.0)) in
      record {
        room = register.room;
        tidy = tidy_put empty places count l register.tidy a i inside.0;
        each = rw store (each_set Good (take count l) i a good register.each);
        apart = rw store (distinct-same number_of (take count l) _ (map-set_same number_of (take count l) i a d there) register.apart);
      }

  pub register_more : (a : A) → place_from number_of (number_of a) 0 (take count l) ≡ None → count < places → Good a
      → Register number_of empty Good places (count + 1) (set l count a)
  register_more a e free good =
      let long : length l ≡ places = register.tidy.long in
      let store : take (count + 1) (set l count a) ≡ take count l ++ (a ∷ []) = rw add-one (take-suc-set l count a (omega arith)) in
      record {
        room = omega arith;
        tidy = tidy-more empty places count l register.tidy a;
        each = rw store (each_more Good (take count l) a good register.each);
        apart = rw store (distinct_more number_of (take count l) a (stands_nowhere number_of (number_of a) 0 (take count l) e) register.apart);
      }

  pub register_so : (Q : A → Type 0) → ((a : A) → Good a → Q a) → Register number_of empty Q places count l
  register_so Q f = record { room = register.room; tidy = register.tidy; each = each_so Good Q f (take count l) register.each; apart = register.apart }
