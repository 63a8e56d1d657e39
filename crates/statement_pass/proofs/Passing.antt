-- What the pass over the areas comes to, by what the whole statement is read as: the tests of the areas and their numbers are the statement's, and the
-- area that was sought is the one that a search of the holding finds, at its place.
use Rattle.std.specs.Prelude.{Ok, Err, Some, None, Option}
use Rattle.laws.proofs.{ℕ, zero, suc, ◌+◌, ◌<◌, ◌≡◌, refl, sym, ap, ◌∙◌, Bool, true, false, cond, ◌&&◌, List, arith, eqb, leb, ltb, le-leb, length, take}
use Rattle.laws.specs.{every, distinct, sum_by, all_of}
use Rattle.laws.proofs.Turns.{and_assoc}
use Rattle.laws.proofs.Lists.{and_left, and_right}
use Rattle.refusals.specs.{Refusal}
use Rattle.holding.specs.{Area, Holding, most_areas, areas_of, empty_area, empty_holding, place_from, find_area}
use Rattle.holding_look.specs.{Units, area_at, looked_up, units_of, units_in}
use Rattle.statement_carried.specs.{area_carried, carried, carried_within}
use Rattle.laws.proofs.Distinct.{distinct_borne}
use Rattle.statement_cursor.specs.{NumberField}
use Rattle.statement_parse.specs.{holding_at}
use Rattle.statement_places.specs.{items_read, head_at, area_in, after_area, place_of, start_of, end_of}
use Rattle.statement_places.proofs.Areas.{areas, body, first_areas, few-areas, counted, areas-read, read_end, area_at_lem, place-next, place-first}
use Rattle.statement.specs.{Read, accepts, read_of, read_within}
use Rattle.statement.proofs.Laws.{taken, refused}
use Rattle.statement_pass.specs.declared.AreasPassed.{AreasPassed}
use Rattle.statement_pass.specs.{Passed, Sought, sought_from, PassesAreas, passed_over}

-- of no area
abbrev no_units : Units
no_units = record { received = 0; surrendered = 0; balance = 0 }

module _ (s : List ℕ) (number : ℕ) where
  abbrev read : Holding
  read = (holding_at s).holding

  -- what is at a place that a search found
  abbrev there_at : Option ℕ → Sought
  there_at found = record { found = found; area = area_at read found; from = start_of s found; to = end_of s found }

  -- a search among k areas from the one at i on
  abbrev searched : ℕ → ℕ → ℕ → Option ℕ
  searched k i at = place_from (λ (a : Area). a.number) number i (items_read (area_in s) (after_area s) k at)

  found_there : (i : ℕ) → i < areas s
      → record { found = Some i; area = area_in s (place_of s i); from = place_of s i; to = after_area s (place_of s i) } ≡ there_at (Some i)
  unfolding area_at start_of end_of
  found_there i h = rw (area_at_lem s i h, place-next s i)

  sought-next : (i : ℕ) (k : ℕ) → i < areas s → sought_from s number (i + 1) k (place_of s (i + 1)) ≡ there_at (searched k (i + 1) (place_of s (i + 1)))
      → sought_from s number i (suc k) (place_of s i) ≡ there_at (searched (suc k) i (place_of s i))
  unfolding sought_from place_from items_read
  sought-next i k h behind = go (eqb (area_in s (place_of s i)).number number)
    where
      go : (t : Bool)
          → cond t (record { found = Some i; area = area_in s (place_of s i); from = place_of s i; to = after_area s (place_of s i) })
          (sought_from s number (i + 1) k (after_area s (place_of s i)))
          ≡ there_at (cond t (Some i) (searched k (i + 1) (after_area s (place_of s i))))
      go true = found_there i h
      go false = rw place-next at behind

  sought-found : (k i : ℕ) → i + k ≡ areas s → sought_from s number i k (place_of s i) ≡ there_at (searched k i (place_of s i))
  unfolding sought_from place_from items_read area_at start_of end_of
  sought-found zero i all = refl
  sought-found (suc k) i all = sought-next i k (omega arith) (sought-found k (i + 1) (omega arith))

  sought_is : sought_from s number 0 (areas s) (body s) ≡ there_at (find_area read number)
  unfolding find_area
  sought_is =
      ap (sought_from s number 0 (areas s)) (sym (place-first s))
      ∙ sought-found (areas s) 0 (omega arith)
      ∙ ap (λ (l : List Area). there_at (place_from (λ (a : Area). a.number) number 0 l))
      (ap (items_read (area_in s) (after_area s) (areas s)) (place-first s) ∙ sym (areas-read s))

  module _ (passed : AreasPassed) (p : PassesAreas s (body s) (areas s) number passed) (apart : Bool)
      (d : apart ≡ distinct (λ (n : ℕ). n) (take (areas s) passed.numbers)) where
    apart_is : apart ≡ distinct (λ (a : Area). a.number) (areas_of read)
    apart_is =
        d ∙ ap (distinct (λ (n : ℕ). n)) p.numbers
        ∙ distinct_borne (λ (a : Area). a.number) (first_areas s (areas s))
        ∙ ap (distinct (λ (a : Area). a.number)) (sym (areas-read s))

    carried_is : carried read ≡ (passed.kept && apart)
    unfolding carried_within all_of
    carried_is =
        rw (ap (λ (n : ℕ). leb n most_areas) (counted s) ∙ le-leb (areas s) most_areas (few-areas s))
        (sym (ap (λ (b : Bool). b && apart) (p.kept ∙ ap (every area_carried) (sym (areas-read s))) ∙ ap (λ (b : Bool). every area_carried (areas_of read) && b) apart_is))

    tested : (((ltb 0 passed.next && eqb passed.next (length s)) && passed.kept) && apart) ≡ accepts s (holding_at s)
    unfolding place_of
    tested =
        let next : passed.next ≡ (holding_at s).next = p.next ∙ sym (read_end s) in
        and_assoc (ltb 0 passed.next && eqb passed.next (length s)) passed.kept apart
        ∙ ap (λ (n : ℕ). (ltb 0 n && eqb n (length s)) && (passed.kept && apart)) next
        ∙ ap (λ (b : Bool). (ltb 0 (holding_at s).next && eqb (holding_at s).next (length s)) && b) (sym carried_is)

    -- what is made of what is read, and of what was sought
    abbrev from-read : Read → Passed
    from-read r =
        let looked = looked_up r.holding number in
        record {
          verdict = r.verdict;
          looked = looked;
          body = body s;
          from = start_of s looked.found;
          to = end_of s looked.found;
          units = units_of r.holding;
        }

    abbrev from-sought : ℕ → Sought → Units → Passed
    from-sought count x units = record {
      verdict = (Ok tt);
      looked = record { number = number; count = count; found = x.found; area = x.area };
      body = body s;
      from = x.from;
      to = x.to;
      units = units;
    }

    -- the units are those of the holding that is read
    units_are : passed.kept ≡ true → passed.units ≡ units_of read
    units_are kept = p.units kept ∙ ap units_in (sym (areas-read s))

    is_read : accepts s (holding_at s) ≡ true → record { verdict = (Ok tt); holding = read } ≡ read_of s
    unfolding read_within
    is_read e = taken s (holding_at s) e

    is_turned : accepts s (holding_at s) ≡ false → record { verdict = Err Refusal.CarriedStatement; holding = empty_holding } ≡ read_of s
    unfolding read_within
    is_turned e = refused s (holding_at s) empty_holding refl e

    pub passed_clear : (((ltb 0 passed.next && eqb passed.next (length s)) && passed.kept) && apart) ≡ true
        → record {
          verdict = (Ok tt);
          looked = record { number = number; count = areas s; found = passed.found; area = passed.area };
          body = body s;
          from = passed.from;
          to = passed.to;
          units = passed.units;
        } ≡ passed_over s number
    unfolding passed_over
    passed_clear e =
        let kept = and_right (ltb 0 passed.next && eqb passed.next (length s)) passed.kept (and_left _ apart e) in
        ap (λ (x : Sought). from-sought (areas s) x passed.units) (p.sought ∙ sought_is)
        ∙ ap (λ (n : ℕ). from-sought n (there_at (find_area read number)) passed.units) (sym (counted s))
        ∙ ap (from-sought read.count (there_at (find_area read number))) (units_are kept)
        ∙ ap from-read (is_read (sym tested ∙ e))

    pub passed_turned : (((ltb 0 passed.next && eqb passed.next (length s)) && passed.kept) && apart) ≡ false → (none : Area) → none ≡ empty_area
        → record {
          verdict = Err Refusal.CarriedStatement;
          looked = record { number = number; count = 0; found = None; area = none };
          body = body s;
          from = length s;
          to = length s;
          units = no_units;
        } ≡ passed_over s number
    unfolding passed_over find_area place_from area_at start_of end_of sum_by
    passed_turned e none n =
        ap (λ (a : Area). record {
          verdict = Err Refusal.CarriedStatement;
          looked = record { number = number; count = 0; found = None; area = a };
          body = body s;
          from = length s;
          to = length s;
          units = no_units;
        }) n
        ∙ ap from-read (is_turned (sym tested ∙ e))

-- by the first line as it was read
module _ (s : List ℕ) (number : ℕ) (head : NumberField) (h : head ≡ head_at s) (passed : AreasPassed) (apart test : Bool)
    (t : test ≡ (((ltb 0 passed.next && eqb passed.next (length s)) && passed.kept) && apart)) where
  pub pass_clear : PassesAreas s head.next head.value number passed → apart ≡ distinct (λ (n : ℕ). n) (take head.value passed.numbers)
      → test ≡ true
      → record {
        verdict = (Ok tt);
        looked = record { number = number; count = head.value; found = passed.found; area = passed.area };
        body = head.next;
        from = passed.from;
        to = passed.to;
        units = passed.units;
      } ≡ passed_over s number
  pass_clear p d e = rw h (passed_clear s number passed (rw h at p) apart (rw h at d) (sym t ∙ e))

  pub pass_turned : PassesAreas s head.next head.value number passed → apart ≡ distinct (λ (n : ℕ). n) (take head.value passed.numbers)
      → test ≡ false → (none : Area) → none ≡ empty_area
      → record {
        verdict = Err Refusal.CarriedStatement;
        looked = record { number = number; count = 0; found = None; area = none };
        body = head.next;
        from = length s;
        to = length s;
        units = no_units;
      } ≡ passed_over s number
  pass_turned p d e none n = rw h (passed_turned s number passed (rw h at p) apart (rw h at d) (sym t ∙ e) none n)
