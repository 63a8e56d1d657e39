-- What is read of a statement is its bytes as the writer writes them, and a tidy holding: the arrays were empty before what was read was put into
-- them. So it is whatever the most sub-areas of an area are.
use Rattle.laws.proofs.{ℕ, ◌≤◌, ◌<◌, List, take}
use Rattle.holding.specs.{Area, most_areas, empty_sub, opened_with}
use Rattle.statement_format.specs.{joined, texts, area_text, statement_of}
use Rattle.statement_parse.specs.{sub_line_at, subs_from, subs_within, area_line_within, areas_from_within, areas_within, holding_within}
use Rattle.theorem_keeping.specs.{TidyAreaIn, TidyHoldingIn}
use Rattle.statement_places.proofs.Places.{Stands, There, stands_none, stands_then}
use Rattle.statement_places.proofs.Values.{number_there, number_small}
use Rattle.statement_places.proofs.Starts.{start_there}
use Rattle.statement_places.proofs.Items.{filled_there}
use Rattle.statement_places.proofs.Lines.{area_there}
use Rattle.theorem_round_trips.proofs.Items.{filled_tidy, filled_each}

module _ (most : ℕ) (s : List ℕ) where
  area-tidy : (at : ℕ) → TidyAreaIn most (area_line_within most s at).area
  unfolding area_line_within subs_within subs_from
  area-tidy at = filled_tidy (λ p. (sub_line_at s p).sub) (λ p. (sub_line_at s p).next) empty_sub most _ _ (number_small s _ 10 most)

  areas_there : (at count : ℕ) → count ≤ most_areas → 0 < (areas_within most s at count).next
      → There s at (texts area_text (take count (areas_within most s at count).areas)) (areas_within most s at count).next
  unfolding areas_within areas_from_within
  areas_there at count room h =
      filled_there (λ p. (area_line_within most s p).area) (λ p. (area_line_within most s p).next) s area_text (area_there most s) (opened_with most 0 0) most_areas count at
      room h

  pub holding_there : 0 < (holding_within most s).next → Stands s 0 (statement_of (holding_within most s).holding) (holding_within most s).next
  unfolding holding_within statement_of joined
  holding_there h =
      let areas = areas_there _ _ (number_small s _ 10 most_areas) h in
      let count = number_there s _ 10 most_areas areas.started in
      let start = start_there s 0 72 count.started in
      stands_then start (stands_then count.stands (stands_then areas.stands (stands_none s _)))

  pub holding-tidy : TidyHoldingIn most (holding_within most s).holding
  unfolding holding_within areas_within areas_from_within
  holding-tidy =
      let item : ℕ → Area = λ p. (area_line_within most s p).area in
      let next : ℕ → ℕ = λ p. (area_line_within most s p).next in
      let room = number_small s _ 10 most_areas in
      record {
        areas = filled_tidy item next (opened_with most 0 0) most_areas _ _ room;
        subs = filled_each item next (opened_with most 0 0) most_areas _ _ room (TidyAreaIn most) area-tidy;
      }
