-- How far a book can have come: the tests as bounds.
use Rattle.laws.proofs.{ℕ, ◌+◌, ◌≤◌, ◌≡◌, refl, true, List, arith, leb-true, le-leb, length}
use Rattle.laws.proofs.Tests.{AllTrue, all_true, true_all}
use Rattle.table.specs.{longest_table}
use Rattle.book_listing.specs.{start, longest_book}
use Rattle.book_reached.specs.{run_of, nothing_reached, may_run, may_run_from}

module _ (size next count accepted refused : ℕ) where
  pub record Bounds : Type 0 where
    pub book : size ≤ longest_book
    pub place : next ≤ longest_book + 1
    pub table : count ≤ longest_table
    pub some : accepted ≤ next
    pub others : refused ≤ next

  pub bounds : may_run size next count accepted refused ≡ true → Bounds
  unfolding may_run AllTrue
  bounds e =
      let all = all_true _ e in
      record {
        book = leb-true _ _ all.0;
        place = leb-true _ _ all.1.0;
        table = leb-true _ _ all.1.1.0;
        some = leb-true _ _ all.1.1.1.0;
        others = leb-true _ _ all.1.1.1.1.0;
      }

  pub may : Bounds → may_run size next count accepted refused ≡ true
  unfolding may_run AllTrue
  may b =
      true_all _
      (le-leb _ _ b.book, (le-leb _ _ b.place, (le-leb _ _ b.table, (le-leb _ _ b.some, (le-leb _ _ b.others, tt)))))

-- a book that is none too long can begin
pub begun : run_of nothing_reached ≡ start
unfolding start
begun = refl

pub may-begin : (book : List ℕ) → length book ≤ longest_book → may_run_from book 0 nothing_reached ≡ true
may-begin book short = may _ _ _ _ _ (record { book = short; place = omega arith; table = omega arith; some = omega arith; others = omega arith })
