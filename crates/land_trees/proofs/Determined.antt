-- What is determined of a hectare: the type is that of a predominant species, and the age follows the rule of that type.
use Rattle.std.specs.Prelude.{Ok, Err}
use Rattle.laws.proofs.{ℕ, ◌≤◌, Bool, ◌≡◌, refl, sym, ap, subst, ◌∙◌, List, [], ◌∷◌, arith, length, take}
use Rattle.std.proofs.lemmas.List.{take_all}
use mathlib.Core.List.{Memᴰ}
use native.Mathlib.Nat.{div-zero}
use Rattle.laws.specs.{sum_by}
use Rattle.laws.proofs.Choosing.{Best}
use Rattle.refusals.specs.{Verdict, Case, smallest}
use Rattle.forest.specs.{Forest}
use Rattle.land_groups.specs.{Group, weights_of, half_up, mean_age}
use Rattle.land_predominance.specs.{predominant_of}
use Rattle.land_predominance.proofs.Order.{Ahead, predominant_best}
use Rattle.land_ages.specs.{hectare_age}
use Rattle.land_ages.proofs.ByType.{ByType, by_type}
use Rattle.land_trees.specs.{bare_in, cases, answer_of, held_of, hectare_of, aged, Hectare}
use Rattle.land_trees.proofs.Judged.{Judged, judged}

pub record Determined (gs : List Group) (forest : Forest) (age : ℕ) : Type 0 where
  pub leader : Group
  pub predominant : Best (Ahead gs) gs leader
  pub its_type : (h : Group) → Memᴰ h gs → h.species ≡ leader.species → h.forest ≡ forest
  pub aged : ByType gs forest age

module _ (count : ℕ) (g : Group) (gs : List Group) (ok : Judged count (g ∷ gs)) where
  abbrev l : Group
  l = predominant_of (g ∷ gs)

  of_leader : Determined (g ∷ gs) l.forest (hectare_age (g ∷ gs) l.forest)
  of_leader =
      let here = (predominant_best g gs).listed in
      record {
        leader = l;
        predominant = predominant_best g gs;
        its_type = λ h m e. ok.one_type l h here m e;
        aged = by_type (g ∷ gs) l here (ok.ranges l here).some-area;
      }

judged_determined : (gs : List Group) → Judged (length gs) gs → Determined gs (predominant_of gs).forest (hectare_age gs (predominant_of gs).forest)
judged_determined [] ok = absurd (omega (arith, ok.at_least))
judged_determined (g ∷ gs) ok = of_leader _ g gs ok

pub determined : (gs : List Group) (forest : Forest) (age : ℕ) → hectare_of gs ≡ aged forest age → Determined gs forest age
unfolding hectare_of held_of answer_of
determined gs forest age e = go (smallest all) refl e
  where
    all : List Case
    all = cases (length gs) (bare_in gs) gs

    go : (v : Verdict) → smallest all ≡ v → answer_of v gs ≡ aged forest age → Determined gs forest age
    go (Err r) c e = absurd (let z : ◌≡◌ {A = ℕ} 0 1 = cc in omega arith)
    go (Ok _) c e =
        let held : ◌≡◌ {A = Hectare} (record { forest = (predominant_of gs).forest; age = hectare_age gs (predominant_of gs).forest }) (record { forest = forest; age = age }) = cc in
        subst (λ (h : Hectare). Determined gs h.forest h.age) held (judged_determined gs (judged _ _ gs c))

at_most_300 : (count : ℕ) (bare : Bool) (gs : List Group) → smallest (cases count bare gs) ≡ Ok tt → hectare_age gs (predominant_of gs).forest ≤ 300
unfolding predominant_of hectare_age mean_age weights_of half_up sum_by
at_most_300 count bare [] c = omega (arith, div-zero 0)
at_most_300 count bare (g ∷ gs) c =
    let ok = judged count bare (g ∷ gs) c in
    ((of_leader count g gs ok).aged.between 0 300 (λ h m t. (omega arith, (ok.ranges h m).age))).1

-- a list that is not refused
module _ (count : ℕ) (bare : Bool) (gs : List Group) (clear : Ok tt ≡ smallest (cases count bare gs)) where
  pub few : count ≤ 64
  few = (judged count bare gs (sym clear)).at_most

  -- its answer
  pub when_clear : (leader : Group) (age : ℕ) → leader ≡ predominant_of gs → age ≡ hectare_age gs leader.forest → aged leader.forest age ≡ held_of count bare gs
  unfolding held_of answer_of
  when_clear leader age l a = rw (a, l) (ap (λ (w : Verdict). answer_of w gs) clear)

  -- so an age is at most 300
  pub age_at_most : (leader : Group) (age : ℕ) → leader ≡ predominant_of gs → age ≡ hectare_age gs leader.forest → age ≤ 300
  age_at_most leader age l a = rw (a, l) (at_most_300 count bare gs (sym clear))

-- of a list that is not refused, what is asked of its first 64 groups is asked of all
module _ (gs : List Group) (bare : Bool) (clear : Ok tt ≡ smallest (cases (length gs) bare gs)) where
  pub of_all : (leader : Group) (age : ℕ) → leader ≡ predominant_of (take 64 gs) → age ≡ hectare_age (take 64 gs) leader.forest
      → (leader ≡ predominant_of gs) × (age ≡ hectare_age gs leader.forest)
  of_all leader age l a =
      let all = take_all 64 gs (few (length gs) bare gs clear) in
      (l ∙ ap predominant_of all, a ∙ ap (λ (hs : List Group). hectare_age hs leader.forest) all)
