-- A line's turn, as it was read, on the area that was looked up for it. `own` is the participant's table, `default` the cells of Schedule 6 as they are lent.
use Rattle.std.specs.Prelude.{◌≡◌, Ok, Err}
use Rattle.laws.specs.{ℕ, List}
use Rattle.refusals.specs.{Refusal}
use Rattle.line_entry.specs.{Entry, Parsed}
use Rattle.holding_look.specs.{Looked}
use Rattle.step_outcome.specs.{Outcome, turned_back, answered}
use Rattle.step.specs.{acted}
use Rattle.table_grow.specs.{growable}
use Rattle.book_listing.specs.{column_taken, parsed_table, if_accepted}
use Rattle.book_column.specs.{Fronts}

-- why a line is no entry; Form stands where it is one
abbrev pub refusal_in : Parsed → Refusal
refusal_in (Ok entry) = Refusal.Form
refusal_in (Err refusal) = refusal

unfoldable pub parsed_outcome : List ℕ → List ℕ → Looked → List ℕ → Parsed → Outcome
parsed_outcome own default looked line (Ok (Entry.Column column)) = answered (growable own looked.count line) (column_taken looked.count)
parsed_outcome own default looked line (Ok (Entry.On on)) = acted own default looked on.act
parsed_outcome own default looked line (Err refusal) = turned_back refusal

-- what the line comes to, and the table that it leaves in front of an array's numbers: the longer one where a T line is accepted
pub record Turn (own default : List ℕ) (looked : Looked) (line : List ℕ) (parsed : Parsed) (outcome : Outcome) (numbers : List ℕ) (count : ℕ) : Type 0 where
  pub comes : outcome ≡ parsed_outcome own default looked line parsed
  pub leaves : Fronts numbers count (if_accepted outcome.verdict (parsed_table own line parsed) own)
