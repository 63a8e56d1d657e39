-- What a clear verdict says: it was clear before the last case, and that case did not apply; so none of a table applies.
use Rattle.std.specs.Prelude.{Ok, Err}
use Rattle.laws.proofs.{ℕ, zero, suc, ◌<◌, Bool, true, false, ◌≡◌, refl, List, [], ◌∷◌, arith, get_or, lit≤}
use Rattle.refusals.specs.{Refusal, Verdict, number_of, Case, ◌⇒◌, weighed, weigh_all, smallest, and_then}

pub clear_before : (v : Verdict) (b : Bool) (r : Refusal) → weighed v b r ≡ Ok tt → v ≡ Ok tt
unfolding weighed
clear_before (Err s) b r e = e
clear_before (Ok _) b r e = refl

pub clear_last : (v : Verdict) (b : Bool) (r : Refusal) → weighed v b r ≡ Ok tt → b ≡ false
unfolding weighed
clear_last (Err s) true r e = cc
clear_last (Err s) false r e = refl
clear_last (Ok _) true r e = cc
clear_last (Ok _) false r e = refl

-- two verdicts in a stated order
pub both_clear : (v w : Verdict) → and_then v w ≡ Ok tt → (v ≡ Ok tt) × (w ≡ Ok tt)
both_clear (Ok _) w e = (refl, e)
both_clear (Err r) w e = (e, let z : ◌≡◌ {A = ℕ} 0 1 = cc in absurd (omega arith))

-- ---- a clear verdict over a table of cases: none of them applies

-- the case at each place of a table does not apply
abbrev pub RuledOut : List Case → Type 0
RuledOut cs = (i : ℕ) → (get_or cs i (false ⇒ Refusal.Form)).applies ≡ false

clear_throughout : (v : Verdict) (cs : List Case) → weigh_all v cs ≡ Ok tt → (v ≡ Ok tt) × RuledOut cs
unfolding weigh_all
clear_throughout v [] e = (e, λ i. refl)
clear_throughout v (c ∷ cs) e = both (clear_throughout (weighed v c.applies c.refusal) cs e)
  where
    both : (weighed v c.applies c.refusal ≡ Ok tt) × RuledOut cs → (v ≡ Ok tt) × RuledOut (c ∷ cs)
    both rest = (clear_before v c.applies c.refusal rest.0, out)
      where
        out : RuledOut (c ∷ cs)
        out zero = clear_last v c.applies c.refusal rest.0
        out (suc i) = rest.1 i

pub ruled_out : (cs : List Case) → smallest cs ≡ Ok tt → RuledOut cs
unfolding smallest
ruled_out cs e = (clear_throughout (Ok tt) cs e).1

-- ---- the numbers

-- every refusal's number is 1 to 99
pub number_range : (r : Refusal) → (0 < number_of r) × (number_of r < 100)
number_range Refusal.Form = (lit≤ tt, lit≤ tt)
number_range Refusal.AreaOrSubNumber = (lit≤ tt, lit≤ tt)
number_range Refusal.ForestType = (lit≤ tt, lit≤ tt)
number_range Refusal.Hectares = (lit≤ tt, lit≤ tt)
number_range Refusal.YearRange = (lit≤ tt, lit≤ tt)
number_range Refusal.TableColumn = (lit≤ tt, lit≤ tt)
number_range Refusal.TreeList = (lit≤ tt, lit≤ tt)
number_range Refusal.OutputShort = (lit≤ tt, lit≤ tt)
number_range Refusal.ParcelList = (lit≤ tt, lit≤ tt)
number_range Refusal.NoTreesOfNineYears = (lit≤ tt, lit≤ tt)
number_range Refusal.CarriedStatement = (lit≤ tt, lit≤ tt)
number_range Refusal.AreaUsed = (lit≤ tt, lit≤ tt)
number_range Refusal.AreaUnknown = (lit≤ tt, lit≤ tt)
number_range Refusal.AreaWithdrawn = (lit≤ tt, lit≤ tt)
number_range Refusal.AreasFull = (lit≤ tt, lit≤ tt)
number_range Refusal.SubUsed = (lit≤ tt, lit≤ tt)
number_range Refusal.SubsFull = (lit≤ tt, lit≤ tt)
number_range Refusal.AreaFiled = (lit≤ tt, lit≤ tt)
number_range Refusal.SubUnknown = (lit≤ tt, lit≤ tt)
number_range Refusal.ClearingBareLand = (lit≤ tt, lit≤ tt)
number_range Refusal.PlantingUnderTrees = (lit≤ tt, lit≤ tt)
number_range Refusal.YearBefore = (lit≤ tt, lit≤ tt)
number_range Refusal.PlantedAfterOpening = (lit≤ tt, lit≤ tt)
number_range Refusal.TableAfterArea = (lit≤ tt, lit≤ tt)
number_range Refusal.SheetForm = (lit≤ tt, lit≤ tt)
number_range Refusal.SheetRow = (lit≤ tt, lit≤ tt)
