-- An area laid out in another number of places has the same sub-areas standing, and so the same lines; a holding of such areas has the same statement.
use Rattle.laws.proofs.{ℕ, zero, suc, ◌-◌, ◌≤◌, ◌≡◌, refl, ap, ◌∙◌, List, [], ◌∷◌, map, arith, length, replicate, length-take, length-append, length-map, length-replicate}
use lib.Seq.{take_at, drop_at}
use Rattle.laws.proofs.Standing.{take-map, drop-map}
use Rattle.holding.specs.{Area, Holding, most_areas, areas_of, subs_of, empty_sub, opened_with}
use Rattle.statement_format.specs.{texts, years_text, amounts_text, area_text, statement_of}
use Rattle.theorem_keeping.specs.{Each, TidyAreaIn, Tidy}
use Rattle.theorem_limits.specs.{area_in_places, holding_in_places}

-- ---- lists

map-replicate : {A B : Type 0} (f : A → B) (n : ℕ) (a : A) → map f (replicate n a) ≡ replicate n (f a)
map-replicate f zero a = refl
map-replicate f (suc n) a = ap (λ l. f a ∷ l) (map-replicate f n a)

texts-same : {A : Type 0} (text : A → List ℕ) (f : A → A) (P : A → Type 0) → ((a : A) → P a → text (f a) ≡ text a) → (l : List A) → Each P l
    → texts text (map f l) ≡ texts text l
unfolding texts Each
texts-same text f P same [] p = refl
texts-same text f P same (a ∷ l) p = rw (same a p.0, texts-same text f P same l p.1)

-- ---- an area whose sub-areas stand in its places

abbrev pub Placed : Area → Type 0
Placed area = area.count ≤ length area.subs

module _ (places : ℕ) (area : Area) (placed : Placed area) where
  standing : length (subs_of area) ≡ area.count
  standing = length-take area.count area.subs ∙ omega arith

  pub subs_stand : subs_of (area_in_places places area) ≡ subs_of area
  subs_stand = take_at (subs_of area) (replicate (places - area.count) empty_sub) area.count standing

  pub area-tidy : area.count ≤ places → TidyAreaIn places (area_in_places places area)
  area-tidy room = record {
    long =
        length-append (subs_of area) (replicate (places - area.count) empty_sub)
        ∙ omega (arith, standing, length-replicate (places - area.count) empty_sub);
    unused = drop_at (subs_of area) (replicate (places - area.count) empty_sub) area.count standing;
  }

  area_text_lem : area_text (area_in_places places area) ≡ area_text area
  unfolding area_text years_text amounts_text
  area_text_lem = rw subs_stand

-- ---- a holding

module _ (places : ℕ) (holding : Holding) where
  pub areas_stand : areas_of (holding_in_places places holding) ≡ map (area_in_places places) (areas_of holding)
  areas_stand = take-map (area_in_places places) holding.count holding.areas

  pub same-statement : Each Placed (areas_of holding) → statement_of (holding_in_places places holding) ≡ statement_of holding
  unfolding statement_of
  same-statement placed = rw (areas_stand, texts-same area_text (area_in_places places) Placed (area_text_lem places) (areas_of holding) placed)

  empty_laid : (m : ℕ) → area_in_places places (opened_with m 0 0) ≡ opened_with places 0 0
  empty_laid m = let all : places - 0 ≡ places = omega arith in ap (λ n. opened_with n 0 0) all

  pub places_tidy : (m : ℕ) → Tidy (opened_with m 0 0) most_areas holding.count holding.areas
      → Tidy (opened_with places 0 0) most_areas holding.count (map (area_in_places places) holding.areas)
  places_tidy m tidy = record {
    long = length-map holding.areas (area_in_places places) ∙ tidy.long;
    unused =
        drop-map (area_in_places places) holding.count holding.areas ∙ ap (map (area_in_places places)) tidy.unused
        ∙ map-replicate (area_in_places places) (most_areas - holding.count) (opened_with m 0 0)
        ∙ ap (replicate (most_areas - holding.count)) (empty_laid m);
  }
