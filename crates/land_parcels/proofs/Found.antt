-- What is found of the parcel's own clearing, or of an earlier one, is found of all its clearings.
use Rattle.laws.proofs.{Bool, ◌||◌, ◌≡◌, ap, ◌∙◌, List, ◌∷◌}
use Rattle.laws.specs.{some}
use Rattle.land_clearings.specs.{Clearing}
use Rattle.land_parcels.specs.{Amiss, clears_bare, out_of_years, misordered, amiss_of}

found : (test : Clearing → Bool) (own : Clearing) (earlier : List Clearing) (first any : Bool) → first ≡ test own → any ≡ some test earlier → (first || any) ≡ some test (own ∷ earlier)
unfolding some
found test own earlier first any e f = ap (λ (b : Bool). b || any) e ∙ ap (λ (b : Bool). test own || b) f

module _ (own : Clearing) (earlier : List Clearing) (bare₀ years₀ order₀ bare years order : Bool) where
  pub all_found : bare₀ ≡ clears_bare own → years₀ ≡ out_of_years own → order₀ ≡ misordered own.cleared own
      → bare ≡ some clears_bare earlier → years ≡ some out_of_years earlier → order ≡ some (misordered own.cleared) earlier
      → ◌≡◌ {A = Amiss} (record { bare = bare₀ || bare; years = years₀ || years; order = order₀ || order }) (amiss_of own earlier)
  unfolding amiss_of
  all_found b₀ y₀ o₀ b y o =
      let e = found clears_bare own earlier bare₀ bare b₀ b in
      let f = found out_of_years own earlier years₀ years y₀ y in
      let g = found (misordered own.cleared) own earlier order₀ order o₀ o in
      λ i. record { bare = e i; years = f i; order = g i }
