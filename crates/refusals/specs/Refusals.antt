-- Refusals under document 01's numbers ("Turned back by the input", "Turned back by the state") and those of document 02, and the smallest that applies.
use Rattle.std.specs.Prelude.{◌∷◌, Ok, Err, Result}
use Rattle.laws.specs.{ℕ, Bool, true, false, cond, List, [], leb}
use Rattle.refusals.specs.declared.Refusal.{Refusal}

-- nothing has applied so far, or a refusal has
abbrev pub Verdict : Type 0
Verdict = Result Unit Refusal

abbrev pub number_of : Refusal → ℕ
-- "1 wrong letter or T kind, field count or form .., byte 10 before a line's end, line over 1024 bytes .., or book over 65536"
number_of Refusal.Form = 1
-- "2 area or sub number; 3 type (B too in a P entry, tree or parcel); 4 hectares; 5 year range"
number_of Refusal.AreaOrSubNumber = 2
number_of Refusal.ForestType = 3
number_of Refusal.Hectares = 4
number_of Refusal.YearRange = 5
-- "6 table column, length (T over 101 cells too), order, cell or odd byte"
number_of Refusal.TableColumn = 6
-- "7 tree list: none or over 64 groups, age over 300, basal area 0 or over 1000000, one species under two types"
number_of Refusal.TreeList = 7
-- "8 output shorter than needed"
number_of Refusal.OutputShort = 8
-- "9 parcel count, over four earlier clearings, cleared before planted, or an earlier clearing later than the parcel's"
number_of Refusal.ParcelList = 9
-- "10 no trees of nine years; 11 statement"
number_of Refusal.NoTreesOfNineYears = 10
number_of Refusal.CarriedStatement = 11
-- "21 area already used; 22 area unknown; 23 withdrawn; 24 sixteen areas stand"
number_of Refusal.AreaUsed = 21
number_of Refusal.AreaUnknown = 22
number_of Refusal.AreaWithdrawn = 23
number_of Refusal.AreasFull = 24
-- "25 sub already used; 26 sixteen subs stand; 27 area has filed; 28 sub unknown"; "number 26 is then given at 48"
number_of Refusal.SubUsed = 25
number_of Refusal.SubsFull = 26
number_of Refusal.AreaFiled = 27
number_of Refusal.SubUnknown = 28
-- "29 clearing bare land; 30 planting under trees; 31 year before the open or latest year"
number_of Refusal.ClearingBareLand = 29
number_of Refusal.PlantingUnderTrees = 30
number_of Refusal.YearBefore = 31
-- "32 planted after opening; 33 T once an area stands"
number_of Refusal.PlantedAfterOpening = 32
number_of Refusal.TableAfterArea = 33
-- document 02, item 3: "41 quoting or a row end broken ..; 42 a row without five fields or another first row"
number_of Refusal.SheetForm = 41
number_of Refusal.SheetRow = 42

-- a refusal, and whether it applies
pub record Case : Type 0 where
  pub applies : Bool
  pub refusal : Refusal

infix 70 ◌⇒◌
abbrev pub ◌⇒◌ : Bool → Refusal → Case
b ⇒ r = record { applies = b; refusal = r }

-- one case more: a refusal once given stands
unfoldable pub weighed : Verdict → Bool → Refusal → Verdict
weighed (Err first) b r = Err first
weighed (Ok _) true r = Err r
weighed (Ok _) false r = Ok tt

unfoldable pub weigh_all : Verdict → List Case → Verdict
weigh_all v [] = v
weigh_all v (c ∷ cs) = weigh_all (weighed v c.applies c.refusal) cs

-- "The smallest number that applies is given, otherwise none": the first that applies, of cases in rising order
unfoldable pub smallest : List Case → Verdict
smallest cs = weigh_all (Ok tt) cs

-- of two verdicts in a stated order, the first refusal
abbrev pub and_then : Verdict → Verdict → Verdict
and_then (Ok _) next = next
and_then (Err refusal) next = Err refusal

-- of two verdicts the refusal with the smaller number
abbrev pub smaller : Verdict → Verdict → Verdict
smaller (Ok _) other = other
smaller (Err r) (Ok _) = Err r
smaller (Err r) (Err s) = cond (leb (number_of r) (number_of s)) (Err r) (Err s)
