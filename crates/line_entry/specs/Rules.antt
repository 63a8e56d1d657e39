-- "Entries" of document 01, letter by letter: the cases in which its fields are refused, by rising number, and the entry otherwise.
-- The form of the whole line is judged first.
use Rattle.std.specs.Prelude.{◌||◌, ◌∷◌, Ok, Err, Option, Result}
use Rattle.laws.specs.{code, ℕ, Bool, not, List, [], eqb, length}
use Rattle.units.specs.{tenths_of}
use Rattle.text_value.specs.{malformed, value_of, outside}
use Rattle.line_type.specs.{unlisted, unplantable, misdated, forest_of}
use Rattle.refusals.specs.{Verdict, Case, ◌⇒◌, smallest, Refusal}
use Rattle.line_entry.specs.declared.Act.{Act}
use Rattle.line_entry.specs.declared.AreaAct.{AreaAct}
use Rattle.line_entry.specs.declared.Entry.{Entry}
use Rattle.forest.specs.{Forest, named}
use Rattle.text.specs.{field_at}
use Rattle.text_number.specs.{Number, number_in}
use Rattle.text_decimal.specs.{hectares_in}
use Rattle.ranges.specs.{last_area, last_sub, first_year, last_year, least_hectares, most_hectares}

-- what a line says: an entry, or why it is none
abbrev pub Parsed : Type 0
Parsed = Result Entry Refusal

-- the field at a place, read
abbrev pub number_at : List (List ℕ) → ℕ → Number
number_at fs k = number_in (field_at fs k)

abbrev pub hectares_at : List (List ℕ) → ℕ → Number
hectares_at fs k = hectares_in (field_at fs k)

abbrev pub type_at : List (List ℕ) → ℕ → Option Forest
type_at fs k = named (field_at fs k)

-- "Areas are 1 to 999."
abbrev pub bad_area : Number → Bool
bad_area n = outside 1 last_area n

-- "sub 1 to 99"
abbrev pub bad_sub : Number → Bool
bad_sub n = outside 1 last_sub n

-- "hectares .. 1 to 10000 as entered", in ten-thousandths
abbrev pub bad_hectares : Number → Bool
bad_hectares n = outside least_hectares most_hectares n

-- "opening (2008 to 2199)"; "last (2008 to 2199)"; "years 2008 to 2199"
abbrev pub bad_year : Number → Bool
bad_year n = outside first_year last_year n

-- an act on an area
abbrev pub on : ℕ → Act → AreaAct
on area act = record { area = area; act = act }

-- the cases that turn a line's fields back, and the entry where none applies
pub record Rule : Type 0 where
  pub cases : List Case
  pub entry : Entry

unfoldable pub parsed : Verdict → Entry → Parsed
parsed (Ok _) e = Ok e
parsed (Err r) e = Err r

-- "The smallest number that applies is given, otherwise none"
abbrev pub parsed_by : Rule → Parsed
parsed_by rule = parsed (smallest rule.cases) rule.entry

-- the letter that a field is; one of no byte or of several is none, 0
unfoldable pub letter_in : List ℕ → ℕ
letter_in [] = 0
letter_in (b ∷ []) = b
letter_in (b ∷ c ∷ bs) = 0

-- "1 wrong letter": the first field
abbrev pub misnamed : ℕ → List (List ℕ) → Bool
misnamed letter fs = not (eqb (letter_in (field_at fs 0)) letter)

-- "1 wrong letter .., field count"
abbrev pub misformed : ℕ → ℕ → List (List ℕ) → Bool
misformed letter n fs = misnamed letter fs || not (eqb (length fs) n)

-- the fields of A and of R: an area and a year
unfoldable pub area_and_year : ℕ → List (List ℕ) → List Case
area_and_year letter fs =
    let area = number_at fs 1 in
    let year = number_at fs 2 in
    misformed letter 3 fs ⇒ Refusal.Form
    ∷ malformed area ⇒ Refusal.Form
    ∷ malformed year ⇒ Refusal.Form
    ∷ bad_area area ⇒ Refusal.AreaOrSubNumber
    ∷ bad_year year ⇒ Refusal.YearRange
    ∷ []

-- "A,area,opening: opens an area on 1 January of opening (2008 to 2199)."
unfoldable pub open_rule : List (List ℕ) → Rule
open_rule fs = record { cases = area_and_year (code "A") fs; entry = Entry.On (on (value_of (number_at fs 1)) (Act.Open (value_of (number_at fs 2)))) }

-- "R,area,last: return from the open year to 31 December of last (2008 to 2199)."
unfoldable pub file_rule : List (List ℕ) → Rule
file_rule fs = record { cases = area_and_year (code "R") fs; entry = Entry.On (on (value_of (number_at fs 1)) (Act.File (value_of (number_at fs 2)))) }

-- "S,area,sub,hectares,type,planted"
unfoldable pub add_rule : List (List ℕ) → Rule
add_rule fs =
    let area = number_at fs 1 in
    let sub = number_at fs 2 in
    let hectares = hectares_at fs 3 in
    let type = type_at fs 4 in
    let planted = number_at fs 5 in
    record {
      cases =
          misformed (code "S") 6 fs ⇒ Refusal.Form
          ∷ malformed area ⇒ Refusal.Form
          ∷ malformed sub ⇒ Refusal.Form
          ∷ malformed hectares ⇒ Refusal.Form
          ∷ malformed planted ⇒ Refusal.Form
          ∷ bad_area area ⇒ Refusal.AreaOrSubNumber
          ∷ bad_sub sub ⇒ Refusal.AreaOrSubNumber
          ∷ unlisted type ⇒ Refusal.ForestType
          ∷ bad_hectares hectares ⇒ Refusal.Hectares
          ∷ misdated type planted ⇒ Refusal.YearRange
          ∷ [];
      entry = Entry.On (on (value_of area) (Act.Add (value_of sub) (tenths_of (value_of hectares)) (forest_of type) (value_of planted)));
    }

-- "C,area,sub,year clears"
unfoldable pub clear_rule : List (List ℕ) → Rule
clear_rule fs = let area = number_at fs 1 in let sub = number_at fs 2 in let year = number_at fs 3 in record {
  cases =
      misformed (code "C") 4 fs ⇒ Refusal.Form
      ∷ malformed area ⇒ Refusal.Form
      ∷ malformed sub ⇒ Refusal.Form
      ∷ malformed year ⇒ Refusal.Form
      ∷ bad_area area ⇒ Refusal.AreaOrSubNumber
      ∷ bad_sub sub ⇒ Refusal.AreaOrSubNumber
      ∷ bad_year year ⇒ Refusal.YearRange
      ∷ [];
  entry = Entry.On (on (value_of area) (Act.Clear (value_of sub) (value_of year)));
}

-- "P,area,sub,type,year plants (type not B)"
unfoldable pub plant_rule : List (List ℕ) → Rule
plant_rule fs =
    let area = number_at fs 1 in
    let sub = number_at fs 2 in
    let type = type_at fs 3 in
    let year = number_at fs 4 in
    record {
      cases =
          misformed (code "P") 5 fs ⇒ Refusal.Form
          ∷ malformed area ⇒ Refusal.Form
          ∷ malformed sub ⇒ Refusal.Form
          ∷ malformed year ⇒ Refusal.Form
          ∷ bad_area area ⇒ Refusal.AreaOrSubNumber
          ∷ bad_sub sub ⇒ Refusal.AreaOrSubNumber
          ∷ unplantable type ⇒ Refusal.ForestType
          ∷ bad_year year ⇒ Refusal.YearRange
          ∷ [];
      entry = Entry.On (on (value_of area) (Act.Plant (value_of sub) (forest_of type) (value_of year)));
    }

-- "W,area: withdraws the area."
unfoldable pub withdraw_rule : List (List ℕ) → Rule
withdraw_rule fs = let area = number_at fs 1 in record {
  cases =
      misformed (code "W") 2 fs ⇒ Refusal.Form
      ∷ malformed area ⇒ Refusal.Form
      ∷ bad_area area ⇒ Refusal.AreaOrSubNumber
      ∷ [];
  entry = Entry.On (on (value_of area) Act.Withdraw);
}
