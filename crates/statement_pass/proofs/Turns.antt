-- A turn of the pass over the areas: what was found so far and what is found from here on make what is found of all of them; and so with the units, which
-- are added while every area is carried.
use Rattle.std.specs.Prelude.{Some, Option}
use Rattle.laws.proofs.{ℕ, suc, ◌+◌, ◌-◌, ◌*◌, ◌≤◌, ◌<◌, max, ◌≡◌, refl, sym, ap, ◌∙◌, Bool, true, false, cond, not, ◌&&◌, List, [], ◌∷◌, ◌++◌, map, append_assoc, append-nil, add-one, ◌⊎◌, inl, inr, ⊎_elim, arith, eqb, length, take, set, length-set}
use Rattle.laws.specs.{every, sum_by}
use lib.Seq.{take-suc-set}
use Rattle.laws.proofs.Lists.{and_left, and_right}
use Rattle.laws.proofs.Turns.{and_none, and_assoc}
use Rattle.holding.specs.{Area, most_areas}
use Rattle.holding_look.specs.{known}
use Rattle.statement_carried.specs.{fields_carried, area_carried}
use Rattle.statement_carried.proofs.Bounds.{area-fields, most_units, units-few}
use Rattle.statement_parse.specs.{AreaRead, area_line_at}
use Rattle.statement_places.specs.{items_read, place_after, area_in, after_area}
use Rattle.statement_pass.specs.{Sought, not_there, sought_from}

-- an area that counts has fields that a statement carries
pub counted_fields : (kept carried : Bool) (area : Area) → carried ≡ area_carried area → (kept && carried) ≡ true → fields_carried area ≡ true
counted_fields kept carried area e t = area-fields area (sym e ∙ and_right kept carried t)

abbrev pub numbers_of : List Area → List ℕ
numbers_of = map (λ (area : Area). area.number)

module _ (s : List ℕ) (at count number : ℕ) where
  -- what is left to read
  abbrev pub rest : ℕ → ℕ → List Area
  rest i next = items_read (area_in s) (after_area s) (count - i) next

  abbrev pub all : List Area
  all = items_read (area_in s) (after_area s) count at

  -- not found yet, or found
  abbrev pub Looking : ℕ → ℕ → Sought → Type 0
  Looking i next so_far =
      ((so_far ≡ not_there s) × (sought_from s number i (count - i) next ≡ sought_from s number 0 count at))
      ⊎ ((known so_far.found ≡ true) × (so_far ≡ sought_from s number 0 count at))

  pub record Along (kept : Bool) (numbers : List ℕ) (so_far : Sought) (next i : ℕ) : Type 0 where
    pub few : i ≤ count
    pub judged : (kept && every area_carried (rest i next)) ≡ every area_carried all
    pub long : length numbers ≡ most_areas
    pub noted : take i numbers ++ numbers_of (rest i next) ≡ numbers_of all
    pub looking : Looking i next so_far
    pub place : place_after (after_area s) (count - i) next ≡ place_after (after_area s) count at

  pub along_start : (numbers : List ℕ) → length numbers ≡ most_areas → Along true numbers (not_there s) at 0
  along_start numbers long =
      let none : count - 0 ≡ count = omega arith in
      record {
        few = omega arith;
        judged = rw none;
        long = long;
        noted = rw none;
        looking = inl (refl, rw none);
        place = rw none;
      }

  module _ (kept : Bool) (numbers : List ℕ) (so_far : Sought) (next i : ℕ) (along : Along kept numbers so_far next i) (h : count ≤ i) where
    over : i ≡ count
    over = omega (arith, along.few)

    none_left : count - i ≡ 0
    none_left = omega arith

    pub kept_all : kept ≡ every area_carried all
    unfolding every items_read
    kept_all = sym (and_none kept) ∙ (rw none_left at along.judged)

    pub noted_all : take count numbers ≡ numbers_of all
    unfolding items_read
    noted_all =
        ap (λ (k : ℕ). take k numbers) (sym over) ∙ sym (append-nil (take i numbers)) ∙ (rw none_left at along.noted)

    pub sought_all : so_far ≡ sought_from s number 0 count at
    unfolding sought_from
    sought_all = ⊎_elim (λ x. x.0 ∙ (rw none_left at x.1)) (λ x. x.1) along.looking

    pub place_all : next ≡ place_after (after_area s) count at
    unfolding place_after
    place_all = rw none_left at along.place

  module _ (i next : ℕ) (h : i < count) where
    one_more : count - i ≡ suc (count - (i + 1))
    one_more = omega arith

    rest_more : rest i next ≡ area_in s next ∷ rest (i + 1) (after_area s next)
    unfolding items_read
    rest_more = rw one_more

    place-more : place_after (after_area s) (count - i) next ≡ place_after (after_area s) (count - (i + 1)) (after_area s next)
    unfolding place_after
    place-more = rw one_more

    abbrev here : Sought
    here = record { found = Some i; area = area_in s next; from = next; to = after_area s next }

    sought-more : sought_from s number i (count - i) next
        ≡ cond (eqb (area_in s next).number number) here
        (sought_from s number (i + 1) (count - (i + 1)) (after_area s next))
    unfolding sought_from
    sought-more = rw one_more

    module _ (so_far : Sought) (looking : Looking i next so_far) where
      abbrev test : Bool
      test = eqb (area_in s next).number number && not (known so_far.found)

      looking_here : test ≡ true → Looking (i + 1) (after_area s next) here
      looking_here e = ⊎_elim (λ x. inr (refl, sym (sought-more ∙ rw same) ∙ x.1)) done looking
        where
          same : eqb (area_in s next).number number ≡ true
          same = and_left (eqb (area_in s next).number number) (not (known so_far.found)) e

          done : (known so_far.found ≡ true) × (so_far ≡ sought_from s number 0 count at) → Looking (i + 1) (after_area s next) here
          done x =
              let no : ◌≡◌ {A = Bool} true false = sym (and_right (eqb (area_in s next).number number) (not (known so_far.found)) e) ∙ ap not x.0 in
              absurd (let z : ◌≡◌ {A = ℕ} 0 1 = cc in omega arith)

      looking_on : test ≡ false → Looking (i + 1) (after_area s next) so_far
      looking_on e = ⊎_elim yet (λ x. inr x) looking
        where
          yet : (so_far ≡ not_there s) × (sought_from s number i (count - i) next ≡ sought_from s number 0 count at) → Looking (i + 1) (after_area s next) so_far
          yet x =
              let unknown : known so_far.found ≡ false = ap (λ (y : Sought). known y.found) x.0 in
              let other : eqb (area_in s next).number number ≡ false =
              sym (and_none (eqb (area_in s next).number number))
              ∙ ap (λ (b : Bool). eqb (area_in s next).number number && not b) (sym unknown)
              ∙ e in
              inl (x.0, sym (sought-more ∙ rw other) ∙ x.1)

    -- the area that was read, and what is known of the one looked for
    module _ (read : AreaRead) (is : read ≡ area_line_at s next) (so_far : Sought) (looking : Looking i next so_far) (before : Bool)
        (e : before ≡ known so_far.found) where
      pub found_here : (eqb read.area.number number && not before) ≡ true → (f : Option ℕ) → f ≡ Some i → (a : Area) → a ≡ read.area
          → (p : ℕ) → p ≡ next → (q : ℕ) → q ≡ read.next → Looking (i + 1) read.next (record { found = f; area = a; from = p; to = q })
      found_here t f ef a ea p ep q eq = rw (ef, ea, ep, eq, is) (looking_here so_far looking (rw (is, e) at t))

      pub not_here : (eqb read.area.number number && not before) ≡ false → (after : Sought) → after ≡ so_far → Looking (i + 1) read.next after
      not_here t after ea = rw (ea, is) (looking_on so_far looking (rw (is, e) at t))

    module _ (kept : Bool) (numbers : List ℕ) (so_far : Sought) (along : Along kept numbers so_far next i) where
      judged-more : ((kept && area_carried (area_in s next)) && every area_carried (rest (i + 1) (after_area s next))) ≡ every area_carried all
      unfolding every
      judged-more =
          and_assoc kept (area_carried (area_in s next)) (every area_carried (rest (i + 1) (after_area s next)))
          ∙ ap (λ (l : List Area). kept && every area_carried l) (sym rest_more)
          ∙ along.judged

      noted_more : count ≤ most_areas → take (i + 1) (set numbers i (area_in s next).number) ++ numbers_of (rest (i + 1) (after_area s next)) ≡ numbers_of all
      noted_more room =
          ap (λ (l : List ℕ). l ++ numbers_of (rest (i + 1) (after_area s next)))
          (ap (λ (k : ℕ). take k (set numbers i (area_in s next).number)) (add-one i)
          ∙ take-suc-set numbers i (area_in s next).number (omega (arith, along.long)))
          ∙ append_assoc (take i numbers) ((area_in s next).number ∷ []) (numbers_of (rest (i + 1) (after_area s next)))
          ∙ ap (λ (l : List Area). take i numbers ++ numbers_of l) (sym rest_more)
          ∙ along.noted

      along_more : count ≤ most_areas → (after : Sought) → Looking (i + 1) (after_area s next) after
          → Along (kept && area_carried (area_in s next)) (set numbers i (area_in s next).number) after (after_area s next) (i + 1)
      along_more room after looking = record {
        few = omega arith;
        judged = judged-more;
        long = simp length-set along.long;
        noted = noted_more room;
        looking = looking;
        place = sym place-more ∙ along.place;
      }

    pub along_again : count ≤ most_areas → (read : AreaRead) → read ≡ area_line_at s next → (carried : Bool) → carried ≡ area_carried read.area
        → (kept : Bool) (numbers : List ℕ) (so_far after : Sought) → Along kept numbers so_far next i → Looking (i + 1) read.next after
        → Along (kept && carried) (set numbers i read.area.number) after read.next (i + 1)
    along_again room read is carried e kept numbers so_far after along looking = rw (e, is) (along_more kept numbers so_far along room after (rw is at looking))

  -- ---- the units

  -- a sum over the areas so far, while each is carried
  pub record Summed (units : Area → ℕ) (kept : Bool) (sum next i : ℕ) : Type 0 where
    pub few : sum ≤ most_units * i
    pub so_far : kept ≡ true → sum + sum_by units (rest i next) ≡ sum_by units all

  pub sum-start : (units : Area → ℕ) → Summed units true 0 at 0
  sum-start units =
      let none : count - 0 ≡ count = omega arith in
      record { few = omega arith; so_far = λ e. rw none (omega arith) }

  module _ (units : Area → ℕ) (kept : Bool) (sum next i : ℕ) (summed : Summed units kept sum next i) where
    pub sum_all : count ≤ i → kept ≡ true → sum ≡ sum_by units all
    unfolding sum_by items_read
    sum_all h e = let none : count - i ≡ 0 = omega arith in omega (arith, rw none at (summed.so_far e))

    module _ (h : i < count) (read : AreaRead) (is : read ≡ area_line_at s next) (carried : Bool) (judged : carried ≡ area_carried read.area) where
      sum_more : (kept && carried) ≡ true → units read.area ≤ most_units → Summed units (kept && carried) (sum + units read.area) read.next (i + 1)
      unfolding sum_by
      sum_more e few = record {
        few = omega (arith, summed.few);
        so_far = λ e2. rw is (omega (arith, rw (rest_more i next h) at (summed.so_far (and_left kept carried e))));
      }

      sum_stays : (kept && carried) ≡ false → Summed units (kept && carried) sum read.next (i + 1)
      sum_stays e = record { few = omega (arith, summed.few); so_far = λ e2. absurd (let z : ◌≡◌ {A = ℕ} 0 1 = cc in omega arith) }

      pub sum_again : ((area : Area) → units area ≤ max area.received area.surrendered) → (after : ℕ)
          → (((kept && carried) ≡ true) × (after ≡ sum + units read.area)) ⊎ (((kept && carried) ≡ false) × (after ≡ sum))
          → Summed units (kept && carried) after read.next (i + 1)
      sum_again within after by =
          ⊎_elim
          (λ b. rw b.1 (sum_more b.0 (omega (arith, within read.area, units-few read.area (counted_fields kept carried read.area judged b.0)))))
          (λ b. rw b.1 (sum_stays b.0))
          by
