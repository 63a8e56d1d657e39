-- The age of a hectare follows the rule of its type, and by either rule lies between the least and the greatest age of its type: the greatest is a group's own,
-- and the mean passes neither.
use Rattle.laws.proofs.{ℕ, ◌≤◌, ◌<◌, Bool, true, false, cond, ◌≡◌, refl, List, arith}
use mathlib.Core.List.{Memᴰ}
use Rattle.forest.specs.{Forest, same_type}
use Rattle.forest.proofs.Laws.{same_type_lem}
use Rattle.land_groups.specs.{Group, area, mean_age}
use Rattle.land_groups.proofs.Mean.{Between, mean_between, area_positive}
use Rattle.land_ages.specs.{greatest_age, hectare_age}
use Rattle.land_ages.proofs.Oldest.{Oldest, oldest, of_its_type}

pub record ByType (gs : List Group) (forest : Forest) (age : ℕ) : Type 0 where
  -- no N group is older, and one has that age
  pub regenerated : forest ≡ Forest.Indigenous → Oldest gs Forest.Indigenous age
  pub others : (forest ≡ Forest.Indigenous → ⊥) → age ≡ mean_age gs forest
  pub between : (lo hi : ℕ) → Between gs forest lo hi → (lo ≤ age) × (age ≤ hi)

-- a type that has a group with some basal area
module _ (gs : List Group) (g : Group) (listed : Memᴰ g gs) (some-area : 0 < area g) where
  abbrev forest : Forest
  forest = g.forest

  mean_lies : (lo hi : ℕ) → Between gs forest lo hi → (lo ≤ mean_age gs forest) × (mean_age gs forest ≤ hi)
  mean_lies lo hi b = mean_between forest lo hi gs b (area_positive forest g gs listed (of_its_type forest g refl) some-area)

  greatest_lies : (lo hi : ℕ) → Between gs forest lo hi → (lo ≤ greatest_age gs forest) × (greatest_age gs forest ≤ hi)
  greatest_lies lo hi b =
      let one = (oldest forest gs g listed refl).one in
      let own = b one.group one.listed (of_its_type forest one.group one.its_type) in
      (omega (arith, own.0, one.its_age), omega (arith, own.1, one.its_age))

  pub by_type : ByType gs g.forest (hectare_age gs g.forest)
  unfolding hectare_age
  by_type = go (same_type forest Forest.Indigenous) refl
    where
      go : (t : Bool) → same_type forest Forest.Indigenous ≡ t → ByType gs forest (cond t (greatest_age gs forest) (mean_age gs forest))
      go true t = record {
        regenerated = λ e. rw (← e) (oldest forest gs g listed refl);
        others = λ other. absurd (other (same_type_lem forest Forest.Indigenous t));
        between = greatest_lies;
      }
      go false t = record {
        regenerated = λ e. absurd (let is = of_its_type Forest.Indigenous g e in let z : ◌≡◌ {A = ℕ} 0 1 = cc in omega arith);
        others = λ other. refl;
        between = mean_lies;
      }
