-- The areas of the holding that is read are those that stand one after the other behind the statement's first line, each at its place; and the bytes
-- between two places are the texts of the areas that stand there.
use Rattle.laws.proofs.{ℕ, suc, ◌+◌, ◌-◌, ◌≤◌, ◌<◌, ◌≡◌, refl, sym, ap, subst, ◌∙◌, List, ◌∷◌, ◌++◌, arith, length, take, drop, get_or, replicate, length-replicate}
use lib.Seq.{get_or-take, take_at, length-sets}
use Rattle.holding.specs.{Area, most_areas, most_subs, areas_of, empty_area}
use Rattle.statement_format.specs.{texts, area_text}
use Rattle.statement_parse.specs.{areas_from_within, areas_within, holding_at, holding_within}
use Rattle.statement_places.specs.{items_read, place_after, head_at, area_in, after_area, place_of}
use Rattle.statement_places.proofs.Places.{Stands, There}
use Rattle.statement_places.proofs.Values.{number_small}
use Rattle.statement_places.proofs.Items.{after-split, items_split, items_at, filled_list, filled_stands, filled_place, items_there}
use Rattle.statement_places.proofs.Lines.{area_there}

module _ (s : List ℕ) where
  abbrev pub areas : ℕ
  areas = (head_at s).value

  abbrev pub body : ℕ
  body = (head_at s).next

  -- the first k areas, and those behind them
  abbrev pub first_areas : ℕ → List Area
  first_areas k = items_read (area_in s) (after_area s) k body

  abbrev pub areas_behind : ℕ → List Area
  areas_behind k = items_read (area_in s) (after_area s) (areas - k) (place_of s k)

  pub few-areas : areas ≤ most_areas
  unfolding head_at
  few-areas = number_small s _ 10 most_areas

  pub counted : (holding_at s).holding.count ≡ areas
  unfolding holding_within head_at
  counted = refl

  pub areas-read : areas_of (holding_at s).holding ≡ first_areas areas
  unfolding holding_within areas_within areas_from_within head_at
  areas-read = filled_stands (area_in s) (after_area s) empty_area most_areas (head_at s).value (head_at s).next few-areas

  pub read_end : (holding_at s).next ≡ place_of s areas
  unfolding holding_within areas_within areas_from_within head_at place_of
  read_end = filled_place (area_in s) (after_area s) empty_area most_areas (head_at s).value (head_at s).next

  pub area_at_lem : (k : ℕ) → k < areas → get_or (holding_at s).holding.areas k empty_area ≡ area_in s (place_of s k)
  unfolding place_of
  area_at_lem k h =
      sym (get_or-take (holding_at s).holding.count (holding_at s).holding.areas k empty_area (omega (arith, counted)))
      ∙ ap (λ (l : List Area). get_or l k empty_area) areas-read
      ∙ items_at (area_in s) (after_area s) areas k body empty_area h

  pub place-next : (k : ℕ) → place_of s (k + 1) ≡ after_area s (place_of s k)
  unfolding place_of place_after
  place-next k = after-split (after_area s) k 1 body

  pub place-first : place_of s 0 ≡ body
  unfolding place_of place_after
  place-first = refl

  pub behind_more : (k : ℕ) → k < areas → areas_behind k ≡ area_in s (place_of s k) ∷ areas_behind (k + 1)
  unfolding items_read
  behind_more k h = let one : areas - k ≡ suc (areas - (k + 1)) = omega arith in rw (one, place-next k)

  pub all_places : length (holding_at s).holding.areas ≡ most_areas
  unfolding holding_within areas_within areas_from_within head_at
  all_places =
      ap length (filled_list (area_in s) (after_area s) empty_area most_areas (head_at s).value (head_at s).next)
      ∙ length-sets (replicate most_areas empty_area) 0 (items_read (area_in s) (after_area s) (head_at s).value (head_at s).next)
      ∙ length-replicate most_areas empty_area

  pub areas-split : (k : ℕ) → k ≤ areas → first_areas areas ≡ first_areas k ++ areas_behind k
  unfolding place_of
  areas-split k h =
      let all : areas ≡ k + (areas - k) = omega arith in
      ap first_areas all ∙ items_split (area_in s) (after_area s) k (areas - k) body

  module _ (ends : 0 < place_of s areas) (k : ℕ) (h : k ≤ areas) where
    behind_there : There s (place_of s k) (texts area_text (areas_behind k)) (place_of s areas)
    unfolding place_of
    behind_there =
        let all : k + (areas - k) ≡ areas = omega arith in
        let end : place_after (after_area s) (areas - k) (place_of s k) ≡ place_of s areas =
        sym (after-split (after_area s) k (areas - k) body) ∙ ap (place_of s) all in
        subst (There s (place_of s k) (texts area_text (areas_behind k))) end
        (items_there (area_in s) (after_area s) s area_text (area_there most_subs s) (areas - k) (place_of s k) (rw end ends))

    pub behind_stand : Stands s (place_of s k) (texts area_text (areas_behind k)) (place_of s areas)
    behind_stand = behind_there.stands

    pub first_stand : Stands s body (texts area_text (first_areas k)) (place_of s k)
    unfolding place_of
    first_stand = (items_there (area_in s) (after_area s) s area_text (area_there most_subs s) k body behind_there.started).stands

-- the bytes between two places, and behind a place up to the end, are what stands there
pub part_stands : {s bytes : List ℕ} {at next : ℕ} → Stands s at bytes next → take (next - at) (drop at s) ≡ bytes
part_stands {s} {bytes} {at} {next} stands =
    ap (take (next - at)) stands.here ∙ take_at bytes (drop next s) (next - at) (omega (arith, stands.after))
