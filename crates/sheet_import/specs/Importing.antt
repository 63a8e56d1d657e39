-- "Import one heading row .., then rows of those five fields, and turn them into S entries in row order, added to a holding. .. A sheet is taken entire or
-- not at all." `own` is the participant's table.
use Rattle.std.specs.Prelude.{◌∷◌, ◌++◌, Ok, Err}
use Rattle.laws.specs.{code, ℕ, List, [], drop}
use Rattle.refusals.specs.{Verdict}
use Rattle.text.specs.{comma, line_end, join}
use Rattle.holding.specs.{Holding}
use Rattle.step_outcome.specs.{Outcome, placed}
use Rattle.book_listing.specs.{line_taken}
use Rattle.sheet_read.specs.{Row, rows_of}
use Rattle.sheet_judge.specs.{sheet_verdict}

-- a row's S entry: "S,", the row's fields joined by commas, and byte 10 as the line's own end
abbrev pub row_line : Row → List ℕ
row_line row = code "S" ∷ comma ∷ (join row ++ (line_end ∷ []))

-- what it comes to, as any line does
abbrev pub row_taken : List ℕ → Holding → Row → Outcome
row_taken own holding row = line_taken own holding (row_line row)

-- what an import comes to; where a sheet is turned back the holding is the one that was given
pub record Imported : Type 0 where
  pub verdict : Verdict
  pub holding : Holding

-- a refusal, and the holding that was given
abbrev pub imported_if : Verdict → Holding → Imported → Imported
imported_if (Ok _) given imported = imported
imported_if (Err refusal) given imported = record { verdict = Err refusal; holding = given }

-- rows in order, each on the holding that the earlier ones left; the first that is turned down turns them all down
unfoldable pub import_rows : List ℕ → (given holding : Holding) → List Row → Imported
import_rows own given holding [] = record { verdict = (Ok tt); holding = holding }
import_rows own given holding (row ∷ rows) =
    let outcome = row_taken own holding row in imported_if outcome.verdict given (import_rows own given (placed holding outcome) rows)

-- the rows behind the heading
abbrev pub sheet_rows : List ℕ → List Row
sheet_rows sheet = drop 1 (rows_of sheet)

-- "41 .., checked first; 42 ..; then the number that S gives at the first row it turns down"
unfoldable pub import_onto : List ℕ → Holding → List ℕ → Imported
import_onto own holding sheet = imported_if (sheet_verdict sheet) holding (import_rows own holding holding (sheet_rows sheet))
