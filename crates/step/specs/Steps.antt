-- A step of a holding, and a list of steps. `own` is the participant's table, `default` the cells of Schedule 6 as they are lent.
use Rattle.std.specs.Prelude.{◌∷◌}
use Rattle.laws.specs.{ℕ, Bool, true, false, not, List, []}
use Rattle.refusals.specs.{Refusal, Case, ◌⇒◌, smaller}
use Rattle.schedules.specs.{schedule6}
use Rattle.table.specs.{is_table, judged}
use Rattle.line_entry.specs.{Act, AreaAct}
use Rattle.holding.specs.{Holding}
use Rattle.holding_look.specs.{Looked, looked_up}
use Rattle.step_outcome.specs.{Outcome, answered, placed}
use Rattle.step_open.specs.{opened, open_cases}
use Rattle.step_add.specs.{new_sub, added, add_cases}
use Rattle.step_clear.specs.{cleared, clear_cases}
use Rattle.step_plant.specs.{planted, plant_cases}
use Rattle.step_file.specs.{filed, file_cases}
use Rattle.step_withdraw.specs.{withdrawn, withdraw_cases}

-- an act on the area that was looked up
abbrev pub acted : List ℕ → List ℕ → Looked → Act → Outcome
acted own default looked (Act.Open opening) = opened looked opening
acted own default looked (Act.Add sub land forest year) = added own default looked (new_sub sub land forest year)
acted own default looked (Act.Clear sub year) = cleared looked sub year
acted own default looked (Act.Plant sub forest year) = planted looked sub forest year
acted own default looked (Act.File last) = filed own default looked last
acted own default looked Act.Withdraw = withdrawn looked

-- whether it may look a rate up: the opening stock of an addition, the stocks of a return
abbrev pub looks_up : Act → Bool
looks_up (Act.Open opening) = false
looks_up (Act.Add sub land forest year) = true
looks_up (Act.Clear sub year) = false
looks_up (Act.Plant sub forest year) = false
looks_up (Act.File last) = true
looks_up Act.Withdraw = false

unfoldable pub applied : List ℕ → List ℕ → Holding → AreaAct → Outcome
applied own default holding on = acted own default (looked_up holding on.area) on.act

-- THE STEP of a holding: "One participant's table, or none, is lent unchanged", and a list that is none refuses every step, unless the entry has a
-- smaller number; where the table has no column the default one serves
unfoldable pub stepped : List ℕ → Holding → AreaAct → Outcome
stepped own holding on =
    let outcome = applied own schedule6 holding on in
    answered (smaller (judged own) outcome.verdict) outcome

-- "Each step gets the holding that the last one left"
unfoldable pub holding_from : List ℕ → Holding → List AreaAct → Holding
holding_from own holding [] = holding
holding_from own holding (s ∷ steps) = holding_from own (placed holding (stepped own holding s)) steps

-- what each step answered, the first first
unfoldable pub outcomes_from : List ℕ → Holding → List AreaAct → List Outcome
outcomes_from own holding [] = []
outcomes_from own holding (s ∷ steps) = stepped own holding s ∷ outcomes_from own (placed holding (stepped own holding s)) steps

-- ---- what can refuse a step

unfoldable pub act_cases : Looked → Act → List Case
act_cases looked (Act.Open opening) = open_cases looked opening
act_cases looked (Act.Add sub land forest year) = add_cases looked.number (new_sub sub land forest year) looked.found looked.area
act_cases looked (Act.Clear sub year) = clear_cases looked.number sub year looked.found looked.area
act_cases looked (Act.Plant sub forest year) = plant_cases looked.number sub forest year looked.found looked.area
act_cases looked (Act.File last) = file_cases looked.number last looked.found looked.area
act_cases looked Act.Withdraw = withdraw_cases looked.number looked.found looked.area

-- the table's own case, and those of the act
abbrev pub cases_of : List ℕ → Holding → AreaAct → List Case
cases_of own holding on = not (is_table own) ⇒ Refusal.TableColumn ∷ act_cases (looked_up holding on.area) on.act
