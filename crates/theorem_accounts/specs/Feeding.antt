-- What the plain ledger is fed, and the changes that it gives for an area.
use Rattle.std.specs.Prelude.{◌&&◌, ◌∷◌, ◌++◌, Ok, Err}
use Rattle.laws.specs.{ℕ, Bool, true, false, cond, List, [], map, eqb, length, keep, ℤ}
use Rattle.std.proofs.Math.Option.{Option, none, some}
use Rattle.refusals.specs.{Verdict}
use Rattle.line_entry.specs.{Act, AreaAct}
use Rattle.step_outcome.specs.{Outcome}
use Rattle.theorem_ledger.specs.{Row, row_number, change_of, noted_step}

-- the first in a list whose number it is
unfoldable pub under : {A : Type 0} → (A → ℕ) → ℕ → List A → Option A
under number_of n [] = none
under number_of n (a ∷ l) = cond (eqb (number_of a) n) (some a) (under number_of n l)

abbrev pub is_accepted : Verdict → Bool
is_accepted (Ok _) = true
is_accepted (Err refusal) = false

-- "is fed each step and whether it was accepted"
unfoldable pub fed : List AreaAct → List Outcome → List (AreaAct × Bool)
fed [] outcomes = []
fed (e ∷ es) [] = []
fed (e ∷ es) (o ∷ outcomes) = (e, is_accepted o.verdict) ∷ fed es outcomes

-- the entries that were accepted: "A refused step counts as not sent."
unfoldable pub accepted_of : List (AreaAct × Bool) → List AreaAct
accepted_of steps = map (λ (s : AreaAct × Bool). s.0) (keep (λ (s : AreaAct × Bool). s.1) steps)

-- the change of a return to a year, by the row of its area
abbrev pub change_by : List ℕ → ℕ → Option Row → List ℤ
change_by own last none = []
change_by own last (some row) = change_of own last row ∷ []

-- the change that an accepted act on the area m has in the ledger, if it is a return of the area n
abbrev pub change_for : List ℕ → ℕ → List Row → ℕ → Act → List ℤ
change_for own n rows m (Act.Open year) = []
change_for own n rows m (Act.Add sub land forest year) = []
change_for own n rows m (Act.Clear sub year) = []
change_for own n rows m (Act.Plant sub forest year) = []
change_for own n rows m (Act.File last) = cond (eqb m n) (change_by own last (under row_number n rows)) []
change_for own n rows m Act.Withdraw = []

-- the changes that the ledger gives for the area n, from its rows before the steps
unfoldable pub changes_from : List ℕ → ℕ → List Row → List (AreaAct × Bool) → List ℤ
changes_from own n rows [] = []
changes_from own n rows (s ∷ steps) =
    cond s.1 (change_for own n rows s.0.area s.0.act) [] ++ changes_from own n (noted_step own rows s.0 s.1) steps

abbrev pub is_return : Act → Bool
is_return (Act.Open year) = false
is_return (Act.Add sub land forest year) = false
is_return (Act.Clear sub year) = false
is_return (Act.Plant sub forest year) = false
is_return (Act.File last) = true
is_return Act.Withdraw = false

abbrev pub is_return_of : ℕ → AreaAct → Bool
is_return_of n on = is_return on.act && eqb on.area n

-- the number of returns: "the count is that of accepted R entries"
unfoldable pub returns_in : ℕ → List (AreaAct × Bool) → ℕ
returns_in n steps = length (keep (λ (s : AreaAct × Bool). s.1 && is_return_of n s.0) steps)
