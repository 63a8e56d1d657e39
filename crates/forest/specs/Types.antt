-- "Forest types: P1 to P9 (Pinus radiata with its region ..), D Douglas fir, S exotic softwoods, H exotic hardwoods, N indigenous."
-- "Bare land is type B ..". A letter or digit is its byte.
use Rattle.std.specs.Prelude.{◌+◌, ◌∷◌, Some, None, Option}
use Rattle.laws.specs.{ℕ, cond, List, [], eqb, Bool, code}
use Rattle.forest.specs.declared.Region.{Region}
use Rattle.forest.specs.declared.Forest.{Forest}

-- "1 Auckland, 2 Bay of Plenty, 3 Canterbury/West Coast, 4 Gisborne, 5 Hawke's Bay/Southern North Island,
-- 6 Nelson/Marlborough, 7 Otago, 8 Southland, 9 Waikato/Taupo"
abbrev pub region_number : Region → ℕ
region_number Region.Auckland = 1
region_number Region.BayOfPlenty = 2
region_number Region.CanterburyWestCoast = 3
region_number Region.Gisborne = 4
region_number Region.HawkesBaySouthernNorthIsland = 5
region_number Region.NelsonMarlborough = 6
region_number Region.Otago = 7
region_number Region.Southland = 8
region_number Region.WaikatoTaupo = 9

abbrev pub digit_of : Region → ℕ
digit_of region = code "0" + region_number region

unfoldable pub letters_of : Forest → List ℕ
letters_of Forest.Bare = code "B" ∷ []
letters_of (Forest.Radiata region) = code "P" ∷ digit_of region ∷ []
letters_of Forest.DouglasFir = code "D" ∷ []
letters_of Forest.ExoticSoftwoods = code "S" ∷ []
letters_of Forest.ExoticHardwoods = code "H" ∷ []
letters_of Forest.Indigenous = code "N" ∷ []

-- the type that stands beside a byte in a list
unfoldable pub beside : ℕ → List (ℕ × Forest) → Option Forest
beside b [] = None
beside b (p ∷ ps) = cond (eqb b p.0) (Some p.1) (beside b ps)

abbrev pub letters : List (ℕ × Forest)
letters = (code "B", Forest.Bare) ∷ (code "D", Forest.DouglasFir) ∷ (code "S", Forest.ExoticSoftwoods) ∷ (code "H", Forest.ExoticHardwoods) ∷ (code "N", Forest.Indigenous) ∷ []

abbrev pub regions : List (ℕ × Forest)
regions =
    (code "1", Forest.Radiata Region.Auckland) ∷ (code "2", Forest.Radiata Region.BayOfPlenty) ∷ (code "3", Forest.Radiata Region.CanterburyWestCoast) ∷ (code "4", Forest.Radiata Region.Gisborne)
    ∷ (code "5", Forest.Radiata Region.HawkesBaySouthernNorthIsland) ∷ (code "6", Forest.Radiata Region.NelsonMarlborough) ∷ (code "7", Forest.Radiata Region.Otago)
    ∷ (code "8", Forest.Radiata Region.Southland) ∷ (code "9", Forest.Radiata Region.WaikatoTaupo) ∷ []

unfoldable pub letter_names : ℕ → Option Forest
letter_names b = beside b letters

unfoldable pub region_names : ℕ → Option Forest
region_names b = beside b regions

-- what bytes name: one letter, or P and a region's digit
unfoldable pub named : List ℕ → Option Forest
named [] = None
named (b ∷ []) = letter_names b
named (b ∷ d ∷ []) = cond (eqb b (code "P")) (region_names d) None
named (b ∷ d ∷ e ∷ more) = None

-- P1 to P9, D, S, H, N, counted from 1; bare land has no column
abbrev pub order_of : Forest → ℕ
order_of Forest.Bare = 0
order_of (Forest.Radiata region) = region_number region
order_of Forest.DouglasFir = 10
order_of Forest.ExoticSoftwoods = 11
order_of Forest.ExoticHardwoods = 12
order_of Forest.Indigenous = 13

-- two types are the same where they stand at the same place, a region's radiata being a type of its own
abbrev pub same_type : Forest → Forest → Bool
same_type a b = eqb (order_of a) (order_of b)
