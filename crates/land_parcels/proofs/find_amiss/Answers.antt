-- `land_parcels::find_amiss` meets its contract: for each fault, the own clearing is asked and then each earlier one.
use Rattle.std.proofs.Common.{rules, tests}
use Rattle.laws.proofs.{Bool, ◌≡◌, ◌∙◌}
use Rattle.laws.specs.{some}
use Rattle.std.proofs.lemmas.Iterator.{YieldsList-from_slice}
use Rattle.std.proofs.lemmas.Iterator.Search.{any_from_yields_List}
use Rattle.laws.proofs.Found.{any_is_some}
use Rattle.land_clearings.specs.{Clearing}
use Rattle.land_parcels.specs.{clears_bare, out_of_years, misordered}
use Rattle.land_parcels.proofs.Found.{all_found}
use Rattle.land_parcels.proofs.find_amiss.Goals as goal

pub returns : goal.returns
returns c =
    let cs = c.args.earlier.now in
    let order : Clearing → Bool = misordered c.args.own.now.cleared in
    let bare : c.any.result ≡ some clears_bare cs =
    any_from_yields_List clears_bare _ _ _ c.any.ensures.ran (YieldsList-from_slice cs cc) (λ x b q k. search (rules, tests)) ∙ any_is_some clears_bare cs in
    let years : c.any-2.result ≡ some out_of_years cs =
    any_from_yields_List out_of_years _ _ _ c.any-2.ensures.ran (YieldsList-from_slice cs cc) (λ x b q k. search (rules, tests)) ∙ any_is_some out_of_years cs in
    let orders : c.any-3.result ≡ some order cs =
    any_from_yields_List order _ _ _ c.any-3.ensures.ran (YieldsList-from_slice cs cc) (λ x b q k. search (rules, tests)) ∙ any_is_some order cs in
    all_found _ _ _ _ _ _ _ _ c.clears_bare.ensures c.out_of_years.ensures c.is_misordered.ensures bare years orders
