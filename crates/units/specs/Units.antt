-- "Tenths of a hectare, tenths of a tonne per hectare and kilograms are three units. Tenth times tenth is 10 kg, so stocks are exact in kilograms."
use Rattle.std.specs.Prelude.{◌+◌, ◌*◌, ◌/◌, ◌-◌}
use Rattle.laws.specs.{ℕ, suc, min, cond, leb, ℤ, pos, negsuc, neg_ℤ}
use Rattle.units.specs.declared.Tenths.{Tenths}
use Rattle.units.specs.declared.Rate.{Rate}
use Rattle.units.specs.declared.Kilograms.{Kilograms}
use Rattle.units.specs.declared.Change.{Change}

-- "Hectares are rounded to a tenth, half up (002, 4.6)", from ten-thousandths
unfoldable pub tenths_of : ℕ → Tenths
tenths_of hectares = record { 0 = (hectares + 500) / 1000 }

-- "trees ..: tenths × stock cell .. × 10"
unfoldable pub trees_of : Tenths → Rate → Kilograms
trees_of land rate = record { 0 = land.0 * rate.0 * 10 }

-- "residue ..: tenths × residue cell .. × share"
unfoldable pub residue_of : Tenths → Rate → ℕ → Kilograms
residue_of land rate share = record { 0 = land.0 * rate.0 * share }

abbrev pub no_kilograms : Kilograms
no_kilograms = record { 0 = 0 }

-- the most kilograms that 64 bits hold
abbrev pub most_kilograms : ℕ
most_kilograms = 18446744073709551615

-- the sum of two stocks, which stops there: no stock of a holding or of parcels comes near
unfoldable pub plus : Kilograms → Kilograms → Kilograms
plus stock more = record { 0 = min (stock.0 + more.0) most_kilograms }

-- a size in kilograms to tonnes, halves up; "rounded to tonnes, half up" of emissions too
unfoldable pub tonnes : ℕ → ℕ
tonnes kg = (kg + 500) / 1000

-- a signed difference to tonnes: its size is rounded and its sign kept, so that halves go away from zero
unfoldable pub nearest_tonne : ℤ → ℤ
nearest_tonne (pos kg) = pos (tonnes kg)
nearest_tonne (negsuc kg) = neg_ℤ (pos (tonnes (suc kg)))

-- what a change is worth
unfoldable pub value : Change → ℤ
value (Change.Gain t) = pos t
value (Change.Loss t) = neg_ℤ (pos t)

-- the change from an opening stock to a closing stock
unfoldable pub change_between : Kilograms → Kilograms → Change
change_between opening closing =
    cond (leb opening.0 closing.0)
    (Change.Gain (tonnes (closing.0 - opening.0)))
    (Change.Loss (tonnes (opening.0 - closing.0)))
