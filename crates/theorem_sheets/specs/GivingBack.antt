-- "Importing an export onto the book's accepted A entries alone must give those S entries back."
use Rattle.std.specs.Prelude.{◌||◌, ◌≡◌, Ok}
use Rattle.laws.specs.{ℕ, Bool, true, false, List, map, keep}
use Rattle.refusals.specs.{Verdict}
use Rattle.line_entry.specs.{Act, AreaAct, Entry, Parsed}
use Rattle.line.specs.{entry_of}
use Rattle.holding.specs.{Holding, empty_holding}
use Rattle.step.specs.{holding_from, outcomes_from}
use Rattle.book_listing.specs.{lines_run, start, run_from}
use Rattle.book_export.specs.{adds, export_of}
use Rattle.sheet_read.specs.{Row}
use Rattle.sheet_import.specs.{row_line, sheet_rows, Imported, import_onto}
use Rattle.theorem_running.specs.{all_accepted, acts_from}

-- whether an act opens an area
abbrev pub opens : Act → Bool
opens (Act.Open opening) = true
opens (Act.Add sub land forest year) = false
opens (Act.Clear sub year) = false
opens (Act.Plant sub forest year) = false
opens (Act.File last) = false
opens Act.Withdraw = false

-- the acts of A entries, of S entries, and of both
abbrev pub opens_area : AreaAct → Bool
opens_area on = opens on.act

abbrev pub adds_sub : AreaAct → Bool
adds_sub on = adds on.act

abbrev pub opens_or_adds : AreaAct → Bool
opens_or_adds on = opens on.act || adds on.act

-- the table that a book's T lines made, and its accepted acts in order
abbrev pub table_of : List ℕ → List ℕ
table_of book = (run_from start (lines_run book)).own

abbrev pub acts_of : List ℕ → List AreaAct
acts_of book = acts_from start (lines_run book)

-- the holding that its accepted A entries alone reach, under its table
abbrev pub alone : List ℕ → Holding
alone book = holding_from (table_of book) empty_holding (keep opens_area (acts_of book))

-- its export, imported onto that holding
abbrev pub imported : List ℕ → Imported
imported book = import_onto (table_of book) (alone book) (export_of book)

-- an act, as a line is read
abbrev pub entry_on : AreaAct → Parsed
entry_on on = Ok (Entry.On on)

-- what the rows of a sheet are read as
abbrev pub row_entries : List Row → List Parsed
row_entries rows = map (λ (row : Row). entry_of (row_line row)) rows

pub record GivenBack (book : List ℕ) : Type 0 where
  -- the A entries alone are accepted, and so is the sheet
  pub opened : all_accepted (outcomes_from (table_of book) empty_holding (keep opens_area (acts_of book))) ≡ true
  pub taken : (imported book).verdict ≡ Ok tt
  -- its rows are exactly the accepted S entries, in order
  pub entries : row_entries (sheet_rows (export_of book)) ≡ map entry_on (keep adds_sub (acts_of book))
  -- and the holding is the one that the A and S entries reach, in the book's order
  pub reached : (imported book).holding ≡ holding_from (table_of book) empty_holding (keep opens_or_adds (acts_of book))
