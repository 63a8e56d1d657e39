-- `statement_judge::residue` meets its contract, by whether there is a residue.
use Rattle.laws.proofs.{sym, ◌∙◌}
use Rattle.laws.specs.{all_of}
use Rattle.statement_carried.proofs.Residues.{residues_carried}
use Rattle.statement_judge.proofs.residue.Goals as goal

pub returns-then-is_bare : goal.returns-then-is_bare
unfolding all_of
returns-then-is_bare c area opening latest = simp (residues_carried, sym c.is_bare.ensures ∙ c.if-is_bare.true)

pub returns : goal.returns
unfolding all_of
returns c area opening latest = simp (residues_carried, opening, latest, sym c.is_bare.ensures ∙ c.if-is_bare.false)
