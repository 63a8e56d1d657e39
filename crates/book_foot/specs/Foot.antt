-- The foot of a listing: "Before the E line, `book` prints F, then units received, units surrendered and balance over all areas, withdrawn ones included."
use Rattle.std.specs.Prelude.{◌+◌, ◌*◌, ◌∷◌, Ok, Err}
use Rattle.laws.specs.{ℕ, Bool, not, List, [], leb, every, all_of}
use Rattle.refusals.specs.{Refusal, Verdict, ◌⇒◌, smallest}
use Rattle.holding.specs.{Holding, most_areas, areas_of}
use Rattle.holding_look.specs.{Units, units_of}
use Rattle.statement_carried.specs.{fields_carried}
use Rattle.statement_format.specs.{start_width, field}
use Rattle.book_print.specs.{foot_text, refusal_text}

abbrev pub units_text : Units → List ℕ
units_text units = foot_text units.received units.surrendered units.balance

-- every area that stands has fields that a statement carries: so it is with all that a book comes to (`kept_foot`, book_room/proofs/Feet)
unfoldable pub all_carried : Holding → Bool
all_carried holding = all_of (leb holding.count most_areas ∷ every fields_carried (areas_of holding) ∷ [])

-- "11 statement"
unfoldable pub summable : Holding → Verdict
summable holding = smallest (not (all_carried holding) ⇒ Refusal.CarriedStatement ∷ [])

-- F and the units; X,0,11 of a holding that is handed over with other fields
abbrev pub foot_by : Verdict → Holding → List ℕ
foot_by (Ok _) holding = units_text (units_of holding)
foot_by (Err refusal) holding = refusal_text 0 refusal

unfoldable pub foot_of : Holding → List ℕ
foot_of holding = foot_by (summable holding) holding

-- what F takes at most: a total has at most 13 digits
abbrev pub most_for_foot : ℕ
most_for_foot = start_width + 3 * field 13
