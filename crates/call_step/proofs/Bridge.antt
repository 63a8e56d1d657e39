-- The bytes that a step leaves as they came. Bytes that are read are the first line and the texts of the areas, one behind the other; so the statement
-- after a step is its first line, the bytes before the area that it names, that area's text, and the bytes behind it.
use Rattle.std.specs.Prelude.{Ok, Some, None, Option}
use Rattle.laws.proofs.{ℕ, suc, ◌+◌, ◌-◌, ◌≤◌, ◌<◌, ◌≡◌, refl, sym, ap, ◌∙◌, List, [], ◌∷◌, ◌++◌, append_assoc, append-nil, arith, add-one, ◌⊎◌, ⊎_elim, length, take, drop, set, drop_of_length-le}
use lib.Seq.{take-set-lt, take-suc-set, set-append_seam}
use Rattle.refusals.specs.{Verdict}
use Rattle.holding.specs.{Area, Holding, most_areas, areas_of, find_area}
use Rattle.holding.proofs.Stands.{stands}
use Rattle.holding_look.specs.{looked_up}
use Rattle.step_outcome.specs.{Outcome, placed}
use Rattle.step_outcome.proofs.Laws.{placed_here}
use Rattle.statement_format.specs.{start_text, number_text, joined, texts, area_text, statement_of}
use Rattle.statement_format.proofs.Texts.{texts-append}
use Rattle.statement_parse.specs.{holding_at}
use Rattle.statement_places.specs.{area_in, after_area, place_of, start_of, end_of}
use Rattle.statement_places.proofs.Places.{Stands}
use Rattle.statement_places.proofs.Items.{items_many}
use Rattle.statement_places.proofs.Areas.{areas, body, first_areas, areas_behind, counted, areas-read, read_end, behind_more, all_places, areas-split, behind_stand, first_stand, part_stands}
use Rattle.statement_carried.specs.{limits}
use Rattle.statement.specs.{Read, read_of}
use Rattle.statement.proofs.Accepted.{read-accepted, read-holding}
use Rattle.call_output.specs.{changed_text}
use Rattle.call_step.proofs.Placed.{Moves, Opens}

module _ (s : List ℕ) (clear : (read_of s).verdict ≡ Ok tt) where
  abbrev carries : Holding
  carries = (read_of s).holding

  same : carries ≡ (holding_at s).holding
  same = ap (λ (r : Read). r.holding) (read-holding limits s clear)

  ended : place_of s (areas s) ≡ length s
  ended = sym (read_end s) ∙ (read-accepted limits s clear).ended

  some_bytes : 0 < place_of s (areas s)
  some_bytes = omega (arith, read_end s, (read-accepted limits s clear).started)

  many : carries.count ≡ areas s
  many = ap (λ (h : Holding). h.count) same ∙ counted s

  standing : areas_of carries ≡ first_areas s (areas s)
  standing = ap areas_of same ∙ areas-read s

  module _ (k : ℕ) (h : k ≤ areas s) where
    front_stands : Stands s (body s) (texts area_text (first_areas s k)) (place_of s k)
    front_stands = first_stand s some_bytes k h

    back_stands : Stands s (place_of s k) (texts area_text (areas_behind s k)) (place_of s (areas s))
    back_stands = behind_stand s some_bytes k h

    -- the bytes between the first line and a place, and behind it
    front : take (place_of s k - body s) (drop (body s) s) ≡ texts area_text (first_areas s k)
    front = part_stands front_stands

    back : drop (place_of s k) s ≡ texts area_text (areas_behind s k)
    back =
        back_stands.here
        ∙ ap (λ (l : List ℕ). texts area_text (areas_behind s k) ++ l) (drop_of_length-le s {i = place_of s (areas s)} (omega (arith, ended)))
        ∙ append-nil (texts area_text (areas_behind s k))

    pub place_order : (body s ≤ place_of s k) × (place_of s k ≤ length s)
    place_order = (omega (arith, front_stands.after), omega (arith, back_stands.after, ended))

  -- a statement whose areas' texts are those
  statement_as : (holding : Holding) (before : List ℕ) (area : Area) (behind : List ℕ) → texts area_text (areas_of holding) ≡ before ++ (area_text area ++ behind)
      → statement_of holding ≡ changed_text holding.count before area behind
  unfolding statement_of changed_text joined
  statement_as holding before area behind e =
      ap (λ (l : List ℕ). start_text 72 ++ (number_text holding.count 10 ++ (l ++ []))) e
      ∙ ap (λ (l : List ℕ). start_text 72 ++ (number_text holding.count 10 ++ l))
      (append_assoc before (area_text area ++ behind) [] ∙ ap (λ (l : List ℕ). before ++ l) (append_assoc (area_text area) behind []))

  -- one of the areas changed
  module _ (k : ℕ) (h : k < areas s) (area : Area) where
    areas_with : take carries.count (set carries.areas k area) ≡ first_areas s k ++ (area ∷ areas_behind s (k + 1))
    areas_with =
        take-set-lt carries.count carries.areas k area (omega (arith, many))
        ∙ ap (λ (l : List Area). set l k area) (standing ∙ areas-split s k (omega arith) ∙ ap (λ (l : List Area). first_areas s k ++ l) (behind_more s k h))
        ∙ ap (λ (n : ℕ). set (first_areas s k ++ (area_in s (place_of s k) ∷ areas_behind s (k + 1))) n area) (sym (items_many (area_in s) (after_area s) k (body s)))
        ∙ set-append_seam (first_areas s k) (area_in s (place_of s k)) (areas_behind s (k + 1)) area

    pub changed_at : (count : ℕ) → count ≡ carries.count → statement_of (record { count = count; areas = set carries.areas k area })
        ≡ changed_text count (take (place_of s k - body s) (drop (body s) s)) area (drop (place_of s (k + 1)) s)
    unfolding texts
    changed_at count e =
        statement_as (record { count = count; areas = set carries.areas k area }) _ area _
        (ap (λ (n : ℕ). texts area_text (take n (set carries.areas k area))) e
        ∙ ap (texts area_text) areas_with ∙ texts-append area_text (first_areas s k) (area ∷ areas_behind s (k + 1))
        ∙ ap (λ (l : List ℕ). l ++ (area_text area ++ texts area_text (areas_behind s (k + 1)))) (sym (front k (omega arith)))
        ∙ ap (λ (l : List ℕ). take (place_of s k - body s) (drop (body s) s) ++ (area_text area ++ l)) (sym (back (k + 1) (omega arith))))

  -- one more behind them
  pub opened-behind : (area : Area) → areas s < most_areas → (count at : ℕ) → count ≡ carries.count + 1 → at ≡ carries.count
      → statement_of (record { count = count; areas = set carries.areas at area })
      ≡ changed_text count (take (length s - body s) (drop (body s) s)) area (drop (length s) s)
  unfolding texts
  opened-behind area room count at e f =
      let long : length carries.areas ≡ most_areas = ap (λ (h : Holding). length h.areas) same ∙ all_places s in
      let next : count ≡ suc carries.count = e ∙ add-one carries.count in
      let front-all : take (length s - body s) (drop (body s) s) ≡ texts area_text (first_areas s (areas s)) =
      ap (λ (p : ℕ). take (p - body s) (drop (body s) s)) (sym ended) ∙ front (areas s) (omega arith) in
      let none : drop (length s) s ≡ [] = drop_of_length-le s {i = length s} (omega arith) in
      statement_as (record { count = count; areas = set carries.areas at area }) _ area _
      (ap (λ (n : ℕ). texts area_text (take n (set carries.areas at area))) next
      ∙ ap (λ (n : ℕ). texts area_text (take (suc carries.count) (set carries.areas n area))) f
      ∙ ap (texts area_text) (take-suc-set carries.areas carries.count area (omega (arith, many)) ∙ ap (λ (l : List Area). l ++ (area ∷ [])) standing)
      ∙ texts-append area_text (first_areas s (areas s)) (area ∷ [])
      ∙ ap (λ (l : List ℕ). l ++ (area_text area ++ [])) (sym front-all)
      ∙ ap (λ (l : List ℕ). take (length s - body s) (drop (body s) s) ++ (area_text area ++ l)) (sym none))

  module _ (number : ℕ) where
    found_inside : (k : ℕ) → find_area carries number ≡ Some k → k < areas s
    unfolding find_area
    found_inside k e =
        let there = stands (λ (a : Area). a.number) number 0 k (areas_of carries) e in
        omega (arith, there.there, there.inside, ap length standing, items_many (area_in s) (after_area s) (areas s) (body s))

    -- the places of the area that was looked up are in the bytes, and in order
    pub places_in : (found : Option ℕ) → found ≡ find_area carries number → (body s ≤ start_of s found) × (start_of s found ≤ length s) × (end_of s found ≤ length s)
    unfolding start_of end_of
    places_in (Some k) e =
        let h = found_inside k (sym e) in
        let here = place_order k (omega arith) in
        (here.0, here.1, (place_order (k + 1) (omega arith)).1)
    places_in None e = (omega (arith, ended, place_order (areas s) (omega arith)), omega arith, omega arith)

    pub changed-statement : (outcome : Outcome) → Moves (looked_up carries number) outcome ⊎ Opens (looked_up carries number) outcome
        → statement_of (placed carries outcome)
        ≡ changed_text outcome.count (take (start_of s (find_area carries number) - body s) (drop (body s) s)) outcome.area (drop (end_of s (find_area carries number)) s)
    unfolding start_of end_of
    changed-statement outcome =
        ⊎_elim
        (λ m.
        sym (ap statement_of (placed_here carries outcome m.at m.place))
        ∙ changed_at m.at (found_inside m.at m.found) outcome.area outcome.count m.count
        ∙ ap (λ (f : Option ℕ). changed_text outcome.count (take (start_of s f - body s) (drop (body s) s)) outcome.area (drop (end_of s f) s)) (sym m.found))
        (λ o.
        sym (ap statement_of (placed_here carries outcome carries.count o.place))
        ∙ opened-behind outcome.area (omega (arith, many, o.room)) outcome.count carries.count o.count refl
        ∙ ap (λ (f : Option ℕ). changed_text outcome.count (take (start_of s f - body s) (drop (body s) s)) outcome.area (drop (end_of s f) s)) (sym o.found))
