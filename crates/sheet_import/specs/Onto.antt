-- A sheet imported onto the holding that a statement carries, and the new statement: "An operation that takes bytes judges .. its statement (11 ..) before its
-- own numbers".
use Rattle.std.specs.Prelude.{◌+◌, ◌++◌}
use Rattle.laws.specs.{code, ℕ, List}
use Rattle.refusals.specs.{Verdict, and_then}
use Rattle.text.specs.{line_end}
use Rattle.statement_format.specs.{start_text, number_text, statement_of, start_width, long_width}
use Rattle.statement.specs.{read_of}
use Rattle.sheet_import.specs.Importing.{import_onto}

-- what refuses the statement, and then what refuses the sheet
unfoldable pub onto_verdict : List ℕ → List ℕ → List ℕ → Verdict
onto_verdict own statement sheet = let read = read_of statement in and_then read.verdict (import_onto own read.holding sheet).verdict

-- the new statement
unfoldable pub onto_bytes : List ℕ → List ℕ → List ℕ → List ℕ
onto_bytes own statement sheet = statement_of (import_onto own (read_of statement).holding sheet).holding

-- "H,areas", and what it takes at most
abbrev pub first_text : ℕ → List ℕ
first_text count = start_text (code "H") ++ number_text count line_end

abbrev pub first_width : ℕ
first_width = start_width + long_width
