-- What keeps the narrower limits keeps the wider ones: the three tests that name a limit follow from it, and every other test is of the same fields and the
-- same sub-areas.
use Rattle.laws.proofs.{ℕ, ◌*◌, ◌≤◌, Bool, true, ◌≡◌, refl, ap, ◌∙◌, List, [], ◌∷◌, map, arith, leb-true, le-leb, length}
use native.Mathlib.Nat.{mul-le-mul}
use Rattle.laws.specs.{every, distinct}
use Rattle.laws.proofs.Tests.{AllTrue, all_true, true_all}
use Rattle.holding.specs.{Sub, Area, Holding, areas_of}
use Rattle.statement_carried.specs.{Limits, years_carried, amounts_within, fields_within, residue_carried, sub_carried, area_within, carried_within}
use Rattle.theorem_keeping.specs.{Each, TidyAreaIn, KeptWithin}
use Rattle.theorem_keeping.proofs.Areas.{area_number}
use Rattle.theorem_keeping.proofs.Lists.{each_map, each_both, every_each, each_every, distinct-same}
use Rattle.theorem_limits.specs.{Narrower, area_in_places, holding_in_places}
use Rattle.theorem_limits.proofs.Laying.{Placed, subs_stand, area-tidy, areas_stand, places_tidy}

-- ---- lists

every_map : {A : Type 0} (test : A → Bool) (f : A → A) (l : List A) → every test (map f l) ≡ every (λ a. test (f a)) l
unfolding every
every_map test f [] = refl
every_map test f (a ∷ l) = rw (every_map test f l)

numbers_stay : (places : ℕ) (l : List Area) → map area_number (map (area_in_places places) l) ≡ map area_number l
numbers_stay places [] = refl
numbers_stay places (area ∷ l) = ap (λ ns. area.number ∷ ns) (numbers_stay places l)

-- ---- an area

-- the sub-areas that stand are no more than the places
pub area-placed : (most : Limits) (area : Area) → area.count ≤ most.subs → TidyAreaIn most.subs area → Placed area
area-placed most area room tidy = let long : length area.subs ≡ most.subs = tidy.long in omega arith

more_times : (x few more n : ℕ) → few ≤ more → x ≤ few * n → x ≤ more * n
more_times x few more n h p = omega (arith, mul-le-mul {n₁ = few} {m₁ = n} {n₂ = more} {m₂ = n} h (omega arith))

module _ (few more : Limits) (narrower : Narrower few more) where
  module _ (area : Area) where
    abbrev laid : Area
    laid = area_in_places more.subs area

    amounts_wider : amounts_within few area ≡ true → amounts_within more laid ≡ true
    unfolding amounts_within AllTrue
    amounts_wider e =
        let t = all_true _ e in
        let stock = more_times _ _ _ area.count narrower.stock (leb-true _ _ t.0) in
        let received = more_times _ _ _ area.returns narrower.received (leb-true _ _ t.1.0) in
        true_all _ (le-leb _ _ stock, (le-leb _ _ received, t.1.1))

    fields_wider : fields_within few area ≡ true → fields_within more laid ≡ true
    unfolding fields_within years_carried AllTrue
    fields_wider e =
        let t = all_true _ e in
        let room : area.count ≤ few.subs = leb-true _ _ t.0 in
        let subs : few.subs ≤ more.subs = narrower.subs in
        let fits : area.count ≤ more.subs = omega arith in
        true_all _ (le-leb _ _ fits, (t.1.0, (t.1.1.0, (amounts_wider t.1.1.1.0, tt))))

    pub area_wider : area_within few area ≡ true → Placed area → area_within more laid ≡ true
    unfolding area_within sub_carried residue_carried AllTrue
    area_wider e placed =
        let t = all_true _ e in
        let subs = subs_stand more.subs area placed in
        true_all _ (
          fields_wider t.0,
          (ap (every (sub_carried area)) subs ∙ t.1.0, (ap (distinct (λ (sub : Sub). sub.number)) subs ∙ t.1.1.0, tt)),
        )

    area-room : area_within few area ≡ true → area.count ≤ few.subs
    unfolding area_within fields_within AllTrue
    area-room e = leb-true _ _ (all_true _ (all_true _ e).0).0

  -- ---- a holding

  module _ (holding : Holding) (kept : KeptWithin few holding) where
    abbrev within : Type 0
    within = Each (λ (area : Area). area_within few area ≡ true) (areas_of holding)

    each_within : within
    unfolding carried_within AllTrue
    each_within = every_each (area_within few) (areas_of holding) (all_true _ kept.carries).1.0

    pub each_placed : Each Placed (areas_of holding)
    each_placed =
        each_both _ (TidyAreaIn few.subs) Placed (λ area e tidy. area-placed few area (area-room area e) tidy) (areas_of holding) each_within kept.tidy.subs

    carried_wider : carried_within more (holding_in_places more.subs holding) ≡ true
    unfolding carried_within AllTrue
    carried_wider =
        let t = all_true _ kept.carries in
        let l = areas_of holding in
        let stand = areas_stand more.subs holding in
        let all = each_every (λ area. area_within more (laid area)) l (each_both _ Placed _ area_wider l each_within each_placed) in
        let apart = distinct-same area_number l (map laid l) (numbers_stay more.subs l) t.1.1.0 in
        true_all _
        (t.0, (ap (every (area_within more)) stand ∙ every_map (area_within more) laid l ∙ all, (ap (distinct area_number) stand ∙ apart, tt)))

    pub kept_wider : KeptWithin more (holding_in_places more.subs holding)
    kept_wider = record {
      carries = carried_wider;
      tidy = record {
        areas = places_tidy more.subs holding few.subs kept.tidy.areas;
        subs =
            rw (areas_stand more.subs holding)
            (each_map (TidyAreaIn more.subs) laid (areas_of holding)
            (each_both _ Placed _ (λ area e placed. area-tidy more.subs area placed (omega (arith, area-room area e, narrower.subs))) (areas_of holding)
            each_within each_placed));
      };
    }
