-- `step::apply_to` meets its contract: in each arm the act is the arm's, and its operation is the definition's.
use Rattle.laws.proofs.{sym, ap, ◌∙◌}
use Rattle.step.specs.{acted}
use Rattle.step.proofs.apply_to.Goals as goal

pub returns-in-Open : goal.returns-in-Open
returns-in-Open c = c.«open».ensures ∙ sym (ap (acted _ _ _) c.in-Open.is)

pub returns-in-Add : goal.returns-in-Add
returns-in-Add c = c.add.ensures ∙ sym (ap (acted _ _ _) c.in-Add.is)

pub returns-in-Clear : goal.returns-in-Clear
returns-in-Clear c = c.clear.ensures ∙ sym (ap (acted _ _ _) c.in-Clear.is)

pub returns-in-Plant : goal.returns-in-Plant
returns-in-Plant c = c.plant.ensures ∙ sym (ap (acted _ _ _) c.in-Plant.is)

pub returns-in-File : goal.returns-in-File
returns-in-File c = c.file.ensures ∙ sym (ap (acted _ _ _) c.in-File.is)

pub returns-in-Withdraw : goal.returns-in-Withdraw
returns-in-Withdraw c = c.withdraw.ensures ∙ sym (ap (acted _ _ _) c.in-Withdraw.is)
