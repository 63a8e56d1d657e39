-- `statement_judge::sub` meets its contract, which joins the same tests.
use Rattle.laws.specs.{all_of}
use Rattle.statement_carried.specs.{sub_carried}
use Rattle.statement_judge.proofs.sub.Goals as goal

pub returns : goal.returns
unfolding sub_carried all_of
returns c area opening latest =
    simp (c.residue.ensures area opening latest, opening, latest, c.max.ensures, c.is_planted.ensures, c.is_land.ensures, c.is_sub.ensures)
