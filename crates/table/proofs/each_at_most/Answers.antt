-- `table::each_at_most` meets its contract: what the library asks of each number.
use Rattle.std.proofs.Common.{rules}
use Rattle.std.proofs.lemmas.Iterator.{YieldsList-from_slice}
use Rattle.std.proofs.lemmas.Iterator.Search.{all_from_yields_List}
use borrow.Author.Tests.{tests}
use Rattle.laws.proofs.{◌∙◌, leb}
use Rattle.laws.proofs.Lists.{each_all}
use Rattle.table.proofs.each_at_most.Goals as goal

pub returns : goal.returns
returns c =
    let a = c.args in
    all_from_yields_List (λ n. leb n a.ceiling) _ _ _ c.all.ensures.ran (YieldsList-from_slice a.numbers.now cc) (λ x b q k. search (rules, tests))
    ∙ each_all a.ceiling a.numbers.now
