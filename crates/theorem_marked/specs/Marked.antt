-- The examples that document 01 marks, each with what it says.
use Rattle.std.specs.Prelude.{◌≡◌, ◌∷◌, Ok, Err}
use Rattle.laws.specs.{ℕ, List, [], ℤ, pos, negsuc}
use Rattle.units.specs.{nearest_tonne}
use Rattle.refusals.specs.{Refusal}
use Rattle.forest.specs.{Forest, Region}
use Rattle.rates.specs.{share_after}
use Rattle.line_entry.specs.{Act, Parsed, Entry, on}
use Rattle.line.specs.{entry_of}
use Rattle.land_groups.specs.{Group}
use Rattle.land_trees.specs.{Answer, aged, hectare_of}

pub data Example : Type 0 where
  -- the bytes of a line and what it says
  Line : List ℕ → Parsed → Example
  -- the tree groups of a hectare, and its type and age
  Trees : List Group → Answer → Example
  -- a difference in kilograms and the tonnes that it is
  Tonnes : ℤ → ℤ → Example
  -- years since a clearing and the tenths of the residue that are left
  Share : ℕ → ℕ → Example

abbrev pub Says : Example → Type 0
Says (Line bytes parsed) = entry_of bytes ≡ parsed
Says (Trees groups hectare) = hectare_of groups ≡ hectare
Says (Tonnes kilograms tonnes) = nearest_tonne kilograms ≡ tonnes
Says (Share years tenths) = share_after years ≡ tenths

abbrev pub Every : List Example → Type 0
Every [] = Unit
Every (e ∷ es) = Says e × Every es

-- S,7,1,HECTARES,D,2008
abbrev pub hectares_line : List ℕ → List ℕ
hectares_line hectares = 83 ∷ 44 ∷ 55 ∷ 44 ∷ 49 ∷ 44 ∷ hectares

abbrev pub rest : List ℕ
rest = 44 ∷ 68 ∷ 44 ∷ 50 ∷ 48 ∷ 48 ∷ 56 ∷ 10 ∷ []

abbrev pub tenths : ℕ → Parsed
tenths n = Ok (Entry.On (on 7 (Act.Add 1 (record { 0 = n }) Forest.DouglasFir 2008)))

abbrev pub group : ℕ → Forest → ℕ → ℕ → Group
group species forest age area = record { species = species; forest = forest; age = age; basal_area = area }

abbrev pub marked : List Example
marked =
    -- "*45.83 gives 458; *45.85 gives 459; *1.04 gives 10; *0.99 and *10000.01 give 4."
    Line (hectares_line (52 ∷ 53 ∷ 46 ∷ 56 ∷ 51 ∷ rest)) (tenths 458)
    ∷ Line (hectares_line (52 ∷ 53 ∷ 46 ∷ 56 ∷ 53 ∷ rest)) (tenths 459)
    ∷ Line (hectares_line (49 ∷ 46 ∷ 48 ∷ 52 ∷ rest)) (tenths 10)
    ∷ Line (hectares_line (48 ∷ 46 ∷ 57 ∷ 57 ∷ rest)) (Err Refusal.Hectares)
    ∷ Line (hectares_line (49 ∷ 48 ∷ 48 ∷ 48 ∷ 48 ∷ 46 ∷ 48 ∷ 49 ∷ rest)) (Err Refusal.Hectares)
    -- "*Ages 30 and 15 at 70 and 30: 26": radiata of mixed age
    ∷ Trees (group 1 (Forest.Radiata Region.Auckland) 15 30 ∷ group 1 (Forest.Radiata Region.Auckland) 30 70 ∷ []) (aged (Forest.Radiata Region.Auckland) 26)
    -- "*28 from 30 and 25 at 60 and 30": two eucalypts, and kanuka that does not count
    ∷ Trees (group 1 Forest.ExoticHardwoods 30 60 ∷ group 2 Forest.ExoticHardwoods 25 30 ∷ group 3 Forest.Indigenous 5 10 ∷ []) (aged Forest.ExoticHardwoods 28)
    -- "*24 from 30 and 15 at 60 and 40": redwood and Pinus muricata
    ∷ Trees (group 1 Forest.ExoticSoftwoods 30 60 ∷ group 2 Forest.ExoticSoftwoods 15 40 ∷ []) (aged Forest.ExoticSoftwoods 24)
    -- "*500 kg is 1 t, *−500 is −1, *499 is 0."
    ∷ Tonnes (pos 500) (pos 1)
    ∷ Tonnes (negsuc 499) (negsuc 0)
    ∷ Tonnes (pos 499) (pos 0)
    -- "*Shares: 4 years 6, 10 and 11 years 0."
    ∷ Share 4 6
    ∷ Share 10 0
    ∷ Share 11 0
    ∷ []
