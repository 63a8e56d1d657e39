-- The predominant group found in order: the first group leads at first, and of none it is no group.
use Rattle.laws.proofs.{◌≡◌, refl, sym, ap, ◌∙◌, List, [], ◌∷◌, arith, length}
use mathlib.Core.List.{foldl}
use Rattle.land_groups.specs.{Group}
use Rattle.land_predominance.specs.{no_group, leading, predominant_of}

pub first_leads : (all : List Group) (g : Group) (rest : List Group) → all ≡ g ∷ rest → foldl (leading all) g rest ≡ predominant_of all
unfolding predominant_of
first_leads all g rest e = ap (λ (l : List Group). foldl (leading l) g rest) e ∙ sym (ap predominant_of e)

pub none_leads : (gs : List Group) → length gs ≡ 0 → no_group ≡ predominant_of gs
unfolding predominant_of
none_leads [] e = refl
none_leads (g ∷ gs) e = absurd (omega arith)
