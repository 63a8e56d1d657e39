-- The guide's examples of trees that count (002, 4.5), the edges of the window and the ties, by computation.
use Rattle.laws.proofs.{ℕ, ◌≡◌, refl, List, [], ◌∷◌}
use Rattle.laws.specs.{keep}
use Rattle.forest.specs.{Forest, Region}
use Rattle.land_clearings.specs.{Clearing, elder, counting_of}

abbrev of : Forest → ℕ → ℕ → Clearing
of forest planted cleared = record { forest = forest; planted = planted; cleared = cleared }

pub record Example : Type 0 where
  pub own : Clearing
  pub earlier : List Clearing
  pub counts : Clearing

abbrev example : Clearing → List Clearing → Clearing → Example
example own earlier counts = record { own = own; earlier = earlier; counts = counts }

abbrev examples : List Example
examples =
    -- a) Douglas fir of 1985 deforested in 2013
    example (of Forest.DouglasFir 1985 2013) [] (of Forest.DouglasFir 1985 2013)
    -- b) Douglas fir of four years, after radiata of 40 years cleared in 2008
    ∷ example (of Forest.DouglasFir 2008 2012) (of (Forest.Radiata Region.Auckland) 1968 2008 ∷ []) (of (Forest.Radiata Region.Auckland) 1968 2008)
    -- c) the same Douglas fir at nine years
    ∷ example (of Forest.DouglasFir 2008 2017) (of (Forest.Radiata Region.Auckland) 1968 2008 ∷ []) (of Forest.DouglasFir 2008 2017)
    -- nine years before counts, ten do not
    ∷ example (of Forest.DouglasFir 2012 2017) (of Forest.ExoticSoftwoods 1990 2008 ∷ of Forest.ExoticHardwoods 1968 2007 ∷ []) (of Forest.ExoticSoftwoods 1990 2008)
    -- on a tie the later cleared, then the parcel itself, then the first listed
    ∷ example (of Forest.DouglasFir 2012 2017) (of Forest.ExoticSoftwoods 1990 2008 ∷ of Forest.ExoticHardwoods 1991 2009 ∷ []) (of Forest.ExoticHardwoods 1991 2009)
    ∷ example (of Forest.DouglasFir 2012 2017) (of Forest.ExoticSoftwoods 2012 2017 ∷ []) (of Forest.DouglasFir 2012 2017)
    ∷ example (of Forest.DouglasFir 2012 2017) (of Forest.ExoticSoftwoods 1990 2008 ∷ of Forest.ExoticHardwoods 1990 2008 ∷ []) (of Forest.ExoticSoftwoods 1990 2008)
    ∷ []

unfoldable pub AllHold : List Example → Type 0
AllHold [] = Unit
AllHold (e ∷ es) = (counting_of e.own e.earlier ≡ e.counts) × AllHold es

pub examples_hold : AllHold examples
unfolding AllHold keep elder counting_of
examples_hold = (refl, (refl, (refl, (refl, (refl, (refl, (refl, tt)))))))
