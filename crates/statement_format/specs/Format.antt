-- The carried statement: "Lines: H,areas. Then per area, in order of opening: A,.. ; then its S,.. , in order of adding. .. Every line ends with byte 10."
-- A comma is byte 44; a letter is its byte.
use Rattle.std.specs.Prelude.{◌∷◌, ◌++◌}
use Rattle.laws.specs.{ℕ, Bool, true, false, List, [], code}
use Rattle.text.specs.{digits, comma, line_end}
use Rattle.forest.specs.{Forest, letters_of}
use Rattle.holding.specs.{Residue, Sub, Area, Holding, areas_of, subs_of, no_residue, residues_of}

-- the letter that starts a line, and the comma after it
unfoldable pub start_text : ℕ → List ℕ
start_text letter = letter ∷ comma ∷ []

-- a number, or a type, and the byte that ends its field
unfoldable pub number_text : ℕ → ℕ → List ℕ
number_text n end = digits n ++ (end ∷ [])

unfoldable pub type_text : Forest → ℕ → List ℕ
type_text forest end = letters_of forest ++ (end ∷ [])

-- pieces, one after the other
unfoldable pub joined : List (List ℕ) → List ℕ
joined [] = []
joined (piece ∷ pieces) = piece ++ joined pieces

-- the texts of a list, one after the other
unfoldable pub texts : {A : Type 0} → (A → List ℕ) → List A → List ℕ
texts text [] = []
texts text (a ∷ l) = text a ++ texts text l

-- "residue type,residue age,residue year", and the byte that ends it
unfoldable pub residue_text : Residue → ℕ → List ℕ
residue_text residue end = joined (type_text residue.forest comma ∷ number_text residue.age comma ∷ number_text residue.year end ∷ [])

-- "no residue B,0,0"; else each residue, of which the last ends the line
unfoldable pub residues_text : List Residue → List ℕ
residues_text [] = residue_text no_residue line_end
residues_text (residue ∷ []) = residue_text residue line_end
residues_text (residue ∷ next ∷ residues) = residue_text residue comma ++ residues_text (next ∷ residues)

-- "S,number,tenths,type,planted,residue type,residue age,residue year"
unfoldable pub sub_text : Sub → List ℕ
sub_text sub =
    joined
    (start_text (code "S") ∷ number_text sub.number comma ∷ number_text sub.tenths.0 comma ∷ type_text sub.forest comma ∷ number_text sub.planted comma
    ∷ residues_text (residues_of sub) ∷ [])

-- "withdrawn (0 or 1)"
abbrev pub flag : Bool → ℕ
flag false = 0
flag true = 1

-- "number,opening,open year,latest year"
unfoldable pub years_text : Area → List ℕ
years_text area =
    joined
    (number_text area.number comma ∷ number_text area.opening comma ∷ number_text area.open_year comma ∷ number_text area.latest comma ∷ [])

-- "withdrawn (0 or 1),returns,stock kg (last closing, else opening),received,surrendered"
unfoldable pub amounts_text : Area → List ℕ
amounts_text area =
    joined
    (number_text (flag area.withdrawn) comma ∷ number_text area.returns comma ∷ number_text area.stock.0 comma ∷ number_text area.received comma
    ∷ number_text area.surrendered comma ∷ [])

-- "A,number,opening,open year,latest year,withdrawn ..,returns,stock ..,received,surrendered,subs; then its S .."
unfoldable pub area_text : Area → List ℕ
area_text area = joined (start_text (code "A") ∷ years_text area ∷ amounts_text area ∷ number_text area.count line_end ∷ texts sub_text (subs_of area) ∷ [])

-- "H,areas. Then per area .."
unfoldable pub statement_of : Holding → List ℕ
statement_of holding = joined (start_text (code "H") ∷ number_text holding.count line_end ∷ texts area_text (areas_of holding) ∷ [])
