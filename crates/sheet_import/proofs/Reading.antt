-- A statement read area by area and judged as it is read: the areas so far, the numbers that they bear and whether a statement carries each of them. At the
-- end the tests are the statement's own.
use Rattle.std.specs.Prelude.{Ok, Err}
use Rattle.laws.proofs.{ℕ, ◌+◌, ◌-◌, ◌≤◌, ◌<◌, ◌≡◌, refl, sym, ap, ◌∙◌, Bool, true, false, ◌&&◌, List, [], ◌∷◌, ◌++◌, arith, add-one, eqb, ltb, le-leb, length, take, set, replicate, length-set}
use lib.Seq.{take-suc-set}
use Rattle.laws.specs.{every, distinct, all_of}
use Rattle.laws.proofs.Standing.{take-map, map-set}
use Rattle.laws.proofs.Turns.{and_none, and_assoc}
use Rattle.laws.proofs.Distinct.{distinct_borne}
use Rattle.refusals.specs.{Refusal}
use Rattle.holding.specs.{Area, Holding, most_areas, empty_area, empty_holding, numbers_in}
use Rattle.statement_carried.specs.{area_carried, carried, carried_within}
use Rattle.statement_cursor.specs.{NumberField, number_at, start_at}
use Rattle.statement_parse.specs.{AreaRead, HoldingRead, area_line_at, areas_from, areas_from_within, areas_within, holding_at, holding_within}
use Rattle.statement_parse.proofs.Items.{items_more, items_done}
use Rattle.statement.specs.{Read, accepts, read_of, read_within}
use Rattle.statement.proofs.Laws.{taken, refused}

every_last : {A : Type 0} (test : A → Bool) (l : List A) (a : A) → every test (l ++ (a ∷ [])) ≡ (every test l && test a)
unfolding every
every_last test [] a = and_none (test a)
every_last test (b ∷ l) a = ap (λ (t : Bool). test b && t) (every_last test l a) ∙ sym (and_assoc (test b) (every test l) (test a))

module _ (s : List ℕ) (at count : ℕ) where
  pub record Reading (areas : List Area) (numbers : List ℕ) (kept : Bool) (next i : ℕ) : Type 0 where
    pub few : i ≤ count
    pub long : length areas ≡ most_areas
    pub borne : numbers ≡ numbers_in areas
    pub judged : kept ≡ every area_carried (take i areas)
    pub left : areas_from s (count - i) i areas next ≡ areas_from s count 0 (replicate most_areas empty_area) at

  pub reading_start : (areas : List Area) → areas ≡ replicate most_areas empty_area → Reading areas (replicate most_areas 0) true at 0
  unfolding every
  reading_start areas e =
      let all : count - 0 ≡ count = omega arith in
      record { few = omega arith; long = rw e; borne = rw e; judged = refl; left = rw (e, all) }

  module _ (areas : List Area) (numbers : List ℕ) (kept : Bool) (next i : ℕ) (r : Reading areas numbers kept next i) where
    pub reading_more : i < count → count ≤ most_areas → (read : AreaRead) → read ≡ area_line_at s next → (carries : Bool) → carries ≡ area_carried read.area
        → Reading (set areas i read.area) (set numbers i read.area.number) (kept && carries) read.next (i + 1)
    unfolding areas_from_within
    reading_more h room read e carries j = record {
      few = omega arith;
      long = simp length-set r.long;
      borne = simp (map-set, r.borne);
      judged =
          ap (λ (b : Bool). b && carries) r.judged
          ∙ ap (λ (b : Bool). every area_carried (take i areas) && b) j
          ∙ sym (every_last area_carried (take i areas) read.area)
          ∙ ap (every area_carried) (sym (take-suc-set areas i read.area (omega (arith, r.long))) ∙ ap (λ (k : ℕ). take k (set areas i read.area)) (sym (add-one i)));
      left = items_more _ _ _ i areas next _ _ h (ap (λ (x : AreaRead). x.area) e) (ap (λ (x : AreaRead). x.next) e) ∙ r.left;
    }

-- all of them
module _ (s : List ℕ) (head : NumberField) (h : head ≡ number_at s (start_at s 0 72) 10 most_areas) (areas : List Area) (numbers : List ℕ) (kept : Bool) (next i : ℕ)
    (r : Reading s head.next head.value areas numbers kept next i) (over : head.value ≤ i) where
  abbrev pub standing : Holding
  standing = record { count = head.value; areas = areas }

  read_is : record { holding = standing; next = next } ≡ holding_at s
  unfolding holding_within areas_within areas_from_within
  read_is =
      ap (λ (x : List Area × ℕ). record { holding = record { count = head.value; areas = x.0 }; next = x.1 }) (items_done _ _ _ i areas next over ∙ r.left)
      ∙ rw h

  all_judged : kept ≡ every area_carried (take head.value areas)
  all_judged = let all : i ≡ head.value = omega (arith, r.few) in r.judged ∙ ap (λ (k : ℕ). every area_carried (take k areas)) all

  module _ (few : head.value ≤ most_areas) (apart : Bool) (d : apart ≡ distinct (λ (n : ℕ). n) (take (head.value - 0) numbers)) where
    all_apart : apart ≡ distinct (λ (a : Area). a.number) (take head.value areas)
    all_apart =
        let all : head.value - 0 ≡ head.value = omega arith in
        d ∙ rw (all, r.borne)
        (ap (distinct (λ (n : ℕ). n)) (take-map (λ (a : Area). a.number) head.value areas) ∙ distinct_borne (λ (a : Area). a.number) (take head.value areas))

    carries : carried standing ≡ (kept && apart)
    unfolding carried_within all_of
    carries =
        rw (le-leb head.value most_areas few)
        (sym (ap (λ (b : Bool). b && apart) all_judged ∙ ap (λ (b : Bool). every area_carried (take head.value areas) && b) all_apart))

    tested : (((ltb 0 next && eqb next (length s)) && kept) && apart) ≡ accepts s (holding_at s)
    tested =
        and_assoc (ltb 0 next && eqb next (length s)) kept apart
        ∙ ap (λ (b : Bool). (ltb 0 next && eqb next (length s)) && b) (sym carries)
        ∙ ap (accepts s) read_is

    pub read_clear : (((ltb 0 next && eqb next (length s)) && kept) && apart) ≡ true → read_of s ≡ record { verdict = (Ok tt); holding = standing }
    unfolding read_within
    read_clear e =
        sym (taken s (holding_at s) (sym tested ∙ e)) ∙ ap (λ (x : HoldingRead). record { verdict = (Ok tt); holding = x.holding }) (sym read_is)

    pub read-turned : (((ltb 0 next && eqb next (length s)) && kept) && apart) ≡ false → (read_of s).verdict ≡ Err Refusal.CarriedStatement
    unfolding read_within
    read-turned e = ap (λ (x : Read). x.verdict) (sym (refused s (holding_at s) empty_holding refl (sym tested ∙ e)))
