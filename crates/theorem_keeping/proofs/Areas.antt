-- An area and a holding as registers: what `Kept` says of a holding, read as facts about its areas and their sub-areas, and made from them.
use Rattle.laws.proofs.{ℕ, true, ◌≡◌, List, leb-true, le-leb}
use Rattle.laws.proofs.Tests.{AllTrue, all_true, true_all}
use Rattle.holding.specs.{Sub, Area, Holding, most_areas, most_subs, areas_of, subs_of, empty_sub, empty_area}
use Rattle.statement_carried.specs.{sub_carried, area_carried, area_within, carried_within}
use Rattle.theorem_keeping.specs.{TidyArea, Kept}
use Rattle.theorem_keeping.proofs.Lists.{each_so, each_both, every_each, each_every}
use Rattle.theorem_keeping.proofs.Register.{Register}
use Rattle.theorem_keeping.proofs.Fields.{FieldsKept, fields_read, fields_carried_lem}
use Rattle.theorem_keeping.proofs.Subs.{SubKept, sub_read, sub_carried_lem}

abbrev pub area_number : Area → ℕ
area_number area = area.number

abbrev pub sub_number : Sub → ℕ
sub_number sub = sub.number

-- the sub-areas, kept under an opening and a latest year
abbrev pub SubsKept : ℕ → ℕ → ℕ → List Sub → Type 0
SubsKept opening latest count subs = Register sub_number empty_sub (SubKept opening latest) most_subs count subs

pub record AreaKept (area : Area) : Type 0 where
  pub fields : FieldsKept area
  pub subs : SubsKept area.opening area.latest area.count area.subs

abbrev pub AreasKept : Holding → Type 0
AreasKept holding = Register area_number empty_area AreaKept most_areas holding.count holding.areas

module _ (area : Area) where
  area-read : area_carried area ≡ true → TidyArea area → AreaKept area
  unfolding area_within AllTrue
  area-read e tidy =
      let t = all_true _ e in
      let fields = fields_read area t.0 in
      record {
        fields = fields.1;
        subs = record {
          room = fields.0;
          tidy = tidy;
          each = each_so _ _ (sub_read area) (subs_of area) (every_each (sub_carried area) (subs_of area) t.1.0);
          apart = t.1.1.0;
        };
      }

  area_carried_lem : AreaKept area → area_carried area ≡ true
  unfolding area_within AllTrue
  area_carried_lem k =
      let all = each_every (sub_carried area) (subs_of area) (each_so _ _ (sub_carried_lem area) (subs_of area) k.subs.each) in
      true_all _ (fields_carried_lem area k.subs.room k.fields, (all, (k.subs.apart, tt)))

module _ (holding : Holding) where
  pub kept-areas : Kept holding → AreasKept holding
  unfolding carried_within AllTrue
  kept-areas k =
      let t = all_true _ k.carries in
      record {
        room = leb-true _ _ t.0;
        tidy = k.tidy.areas;
        each = each_both _ _ _ area-read (areas_of holding) (every_each area_carried (areas_of holding) t.1.0) k.tidy.subs;
        apart = t.1.1.0;
      }

  pub areas-kept : AreasKept holding → Kept holding
  unfolding carried_within AllTrue
  areas-kept k =
      let all = each_every area_carried (areas_of holding) (each_so _ _ area_carried_lem (areas_of holding) k.each) in
      record {
        carries = true_all _ (le-leb _ _ k.room, (all, (k.apart, tt)));
        tidy = record { areas = k.tidy; subs = each_so AreaKept TidyArea (λ area a. a.subs.tidy) (areas_of holding) k.each };
      }
