-- The place of a type that a match has told: that of the type it is.
use Rattle.laws.proofs.{◌≡◌, sym, ap, ◌∙◌}
use Rattle.forest.specs.{Forest, Region}
use Rattle.schedules.specs.{Kind, place_six}

module _ (kind : Kind) {forest : Forest} where
  pub of_type_lem : {known : Forest} → forest ≡ known → place_six kind known ≡ place_six kind forest
  of_type_lem e = sym (ap (place_six kind) e)

  pub of_region : {region known : Region} → forest ≡ Forest.Radiata region → region ≡ known → place_six kind (Forest.Radiata known) ≡ place_six kind forest
  of_region e r = of_type_lem (e ∙ ap Forest.Radiata r)
