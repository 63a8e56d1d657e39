-- `sheet_judge::is_regular` meets its contract: five fields whose joined bytes are the heading's are the heading.
use Rattle.sheet_judge.proofs.Heading.{regular_tested}
use Rattle.sheet_judge.proofs.is_regular.Goals as goal

pub returns : goal.returns
returns c =
    let put = c in
    simp (c.all_five.ensures, c.is_heading.ensures) (regular_tested put.args.sheet.now _ _ put.put_joined-row.ensures)
