-- Letters and types: a type's letters name it, and nothing else does; two types at one place are one type.
use Rattle.std.specs.Prelude.{Some, None}
use Rattle.laws.proofs.{ℕ, ◌≤◌, Bool, true, false, cond, ◌≡◌, refl, sym, ap, ◌∙◌, List, [], ◌∷◌, arith, eqb-true, eq-eqb, ne_eqb, eqb, lit≤, length, get_or}
use Rattle.forest.specs.{Region, Forest, region_number, letters_of, beside, letters, regions, letter_names, region_names, named, order_of, same_type}

pub nine_regions : (r : Region) → region_number r ≤ 9
nine_regions Region.Auckland = lit≤ tt
nine_regions Region.BayOfPlenty = lit≤ tt
nine_regions Region.CanterburyWestCoast = lit≤ tt
nine_regions Region.Gisborne = lit≤ tt
nine_regions Region.HawkesBaySouthernNorthIsland = lit≤ tt
nine_regions Region.NelsonMarlborough = lit≤ tt
nine_regions Region.Otago = lit≤ tt
nine_regions Region.Southland = lit≤ tt
nine_regions Region.WaikatoTaupo = lit≤ tt

pub thirteen_types : (f : Forest) → order_of f ≤ 13
thirteen_types Forest.Bare = lit≤ tt
thirteen_types (Forest.Radiata r) = let h = nine_regions r in omega arith
thirteen_types Forest.DouglasFir = lit≤ tt
thirteen_types Forest.ExoticSoftwoods = lit≤ tt
thirteen_types Forest.ExoticHardwoods = lit≤ tt
thirteen_types Forest.Indigenous = lit≤ tt

-- what bytes name, by how many they are
pub one_byte : (s : List ℕ) → length s ≡ 1 → letter_names (get_or s 0 0) ≡ named s
unfolding named
one_byte [] h = absurd (omega arith)
one_byte (b ∷ []) h = refl
one_byte (b ∷ d ∷ s) h = absurd (omega arith)

pub two_bytes : (s : List ℕ) → length s ≡ 2 → get_or s 0 0 ≡ 80 → region_names (get_or s 1 0) ≡ named s
unfolding named
two_bytes [] h e = absurd (omega arith)
two_bytes (b ∷ []) h e = absurd (omega arith)
two_bytes (b ∷ d ∷ []) h e = simp (eq-eqb b 80 e)
two_bytes (b ∷ d ∷ f ∷ s) h e = absurd (omega arith)

pub no_radiata : (s : List ℕ) → length s ≡ 2 → (get_or s 0 0 ≡ 80 → ⊥) → None ≡ named s
unfolding named
no_radiata [] h e = absurd (omega arith)
no_radiata (b ∷ []) h e = absurd (omega arith)
no_radiata (b ∷ d ∷ []) h e = simp (ne_eqb b 80 e)
no_radiata (b ∷ d ∷ f ∷ s) h e = absurd (omega arith)

pub no_letters : (s : List ℕ) → (length s ≡ 1 → ⊥) → (length s ≡ 2 → ⊥) → None ≡ named s
unfolding named
no_letters [] h e = refl
no_letters (b ∷ []) h e = absurd (h refl)
no_letters (b ∷ d ∷ []) h e = absurd (e refl)
no_letters (b ∷ d ∷ f ∷ s) h e = refl

-- a type's letters name it
pub letters_name : (f : Forest) → named (letters_of f) ≡ Some f
unfolding named letters_of letter_names region_names beside
letters_name Forest.Bare = refl
letters_name (Forest.Radiata Region.Auckland) = refl
letters_name (Forest.Radiata Region.BayOfPlenty) = refl
letters_name (Forest.Radiata Region.CanterburyWestCoast) = refl
letters_name (Forest.Radiata Region.Gisborne) = refl
letters_name (Forest.Radiata Region.HawkesBaySouthernNorthIsland) = refl
letters_name (Forest.Radiata Region.NelsonMarlborough) = refl
letters_name (Forest.Radiata Region.Otago) = refl
letters_name (Forest.Radiata Region.Southland) = refl
letters_name (Forest.Radiata Region.WaikatoTaupo) = refl
letters_name Forest.DouglasFir = refl
letters_name Forest.ExoticSoftwoods = refl
letters_name Forest.ExoticHardwoods = refl
letters_name Forest.Indigenous = refl

-- what holds of each pair of a list holds of what stands beside a byte
abbrev Each : (ℕ → Forest → Type 0) → List (ℕ × Forest) → Type 0
Each P [] = Unit
Each P (p ∷ ps) = P p.0 p.1 × Each P ps

besides : (P : ℕ → Forest → Type 0) (b : ℕ) (f : Forest) (l : List (ℕ × Forest)) → Each P l → beside b l ≡ Some f → P b f
unfolding beside
besides P b f [] all e = let z : ◌≡◌ {A = ℕ} 0 1 = cc in absurd (omega arith)
besides P b f (p ∷ ps) all e = go (eqb b p.0) refl e (besides P b f ps all.1)
  where
    go : (t : Bool) → eqb b p.0 ≡ t → cond t (Some p.1) (beside b ps) ≡ Some f → (beside b ps ≡ Some f → P b f) → P b f
    go true q r later = let k : p.1 ≡ f = cc in rw (eqb-true b p.0 q, ← k) all.0
    go false q r later = later r

-- and only its letters do
pub only_letters_name : (s : List ℕ) (f : Forest) → named s ≡ Some f → s ≡ letters_of f
unfolding named letters_of letter_names region_names
only_letters_name [] f e = let z : ◌≡◌ {A = ℕ} 0 1 = cc in absurd (omega arith)
only_letters_name (b ∷ []) f e =
    besides (λ k g. k ∷ [] ≡ letters_of g) b f letters (refl, (refl, (refl, (refl, (refl, tt))))) e
only_letters_name (b ∷ d ∷ []) f e = go (eqb b 80) refl e
  where
    go : (t : Bool) → eqb b 80 ≡ t → cond t (region_names d) None ≡ Some f → b ∷ d ∷ [] ≡ letters_of f
    go true q r =
        ap (λ (k : ℕ). k ∷ d ∷ []) (eqb-true b 80 q)
        ∙ besides (λ k g. 80 ∷ k ∷ [] ≡ letters_of g) d f regions (refl, (refl, (refl, (refl, (refl, (refl, (refl, (refl, (refl, tt))))))))) r
    go false q r = let z : ◌≡◌ {A = ℕ} 0 1 = cc in absurd (omega arith)
only_letters_name (b ∷ d ∷ g ∷ s) f e = let z : ◌≡◌ {A = ℕ} 0 1 = cc in absurd (omega arith)

-- the type at a place of the order
abbrev type_at : ℕ → Forest
type_at n = get_or (Forest.Bare ∷ Forest.Radiata Region.Auckland ∷ Forest.Radiata Region.BayOfPlenty ∷ Forest.Radiata Region.CanterburyWestCoast ∷ Forest.Radiata Region.Gisborne ∷ Forest.Radiata Region.HawkesBaySouthernNorthIsland ∷ Forest.Radiata Region.NelsonMarlborough ∷ Forest.Radiata Region.Otago ∷ Forest.Radiata Region.Southland ∷ Forest.Radiata Region.WaikatoTaupo ∷ Forest.DouglasFir ∷ Forest.ExoticSoftwoods ∷ Forest.ExoticHardwoods ∷ Forest.Indigenous ∷ []) n Forest.Bare

type_at_order : (f : Forest) → type_at (order_of f) ≡ f
type_at_order Forest.Bare = refl
type_at_order (Forest.Radiata Region.Auckland) = refl
type_at_order (Forest.Radiata Region.BayOfPlenty) = refl
type_at_order (Forest.Radiata Region.CanterburyWestCoast) = refl
type_at_order (Forest.Radiata Region.Gisborne) = refl
type_at_order (Forest.Radiata Region.HawkesBaySouthernNorthIsland) = refl
type_at_order (Forest.Radiata Region.NelsonMarlborough) = refl
type_at_order (Forest.Radiata Region.Otago) = refl
type_at_order (Forest.Radiata Region.Southland) = refl
type_at_order (Forest.Radiata Region.WaikatoTaupo) = refl
type_at_order Forest.DouglasFir = refl
type_at_order Forest.ExoticSoftwoods = refl
type_at_order Forest.ExoticHardwoods = refl
type_at_order Forest.Indigenous = refl

-- two types at one place are one type
pub same_type_lem : (a b : Forest) → same_type a b ≡ true → a ≡ b
same_type_lem a b e = sym (type_at_order a) ∙ ap type_at (eqb-true (order_of a) (order_of b) e) ∙ type_at_order b
