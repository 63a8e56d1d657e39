-- What a step answers: the verdict, the report, and the one area that comes to stand at a place, of how many.
use Rattle.std.specs.Prelude.{◌&&◌, ◌∷◌, Ok, Err, Some, None, Option}
use Rattle.laws.specs.{ℕ, Bool, not, List, [], set}
use Rattle.refusals.specs.{Refusal, Verdict, Case, ◌⇒◌}
use Rattle.holding.specs.{Area, Holding, empty_area}
use Rattle.holding_look.specs.{known}
use Rattle.statement_carried.specs.{fields_carried}
use Rattle.step_outcome.specs.declared.Report.{Report}
use Rattle.step_outcome.specs.declared.Outcome.{Outcome}

-- "A refusal returns its number only."
abbrev pub turned_back : Refusal → Outcome
turned_back refusal = record { verdict = Err refusal; report = Report.Nothing; place = None; count = 0; area = empty_area }

abbrev pub accepted : Report → Option ℕ → ℕ → Area → Outcome
accepted report place count area = record { verdict = (Ok tt); report = report; place = place; count = count; area = area }

-- what a verdict makes of the outcome that an accepted step has
unfoldable pub answered : Verdict → Outcome → Outcome
answered (Err refusal) outcome = turned_back refusal
answered (Ok _) outcome = outcome

-- the holding after a step
abbrev pub placed_at : Holding → Option ℕ → ℕ → Area → Holding
placed_at holding (Some i) count area = record { count = count; areas = set holding.areas i area }
placed_at holding None count area = holding

unfoldable pub placed : Holding → Outcome → Holding
placed holding outcome = placed_at holding outcome.place outcome.count outcome.area

-- "11 statement": the area found has fields that no statement carries
abbrev pub uncarried : Option ℕ → Area → Bool
uncarried found area = known found && not (fields_carried area)

-- "22 area unknown; 23 withdrawn", for a step of an area that was looked up
unfoldable pub area_cases : Option ℕ → Area → List Case
area_cases found area =
    uncarried found area ⇒ Refusal.CarriedStatement
    ∷ not (known found) ⇒ Refusal.AreaUnknown
    ∷ area.withdrawn ⇒ Refusal.AreaWithdrawn
    ∷ []
