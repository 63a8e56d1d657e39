-- What the sheet of document 01's printed case shows, by computation on its bytes: 105 units received and 105 due, a balance of 90 after the third return
-- and of 0 after W; the number of the line that X names is no area's.
use Rattle.laws.proofs.{ℕ, ◌≡◌, refl, List, [], ◌∷◌, take}
use Rattle.laws.specs.{sum_by}
use Rattle.text.specs.{extend, split}
use Rattle.statement_format.specs.{joined}
use Rattle.book_listing.specs.{lines_of}
use Rattle.theorem_foot.specs.{number_shown, received_shown, due_shown, balance_after, last_balance, sum_to}

-- R,7,2010,2010,55,55,0,55; R,7,2011,2012,-15,0,15,40; R,7,2013,2013,50,50,0,90; X,10,28; W,7,90
abbrev printed : List (List ℕ)
printed =
    (82 ∷ 44 ∷ 55 ∷ 44 ∷ 50 ∷ 48 ∷ 49 ∷ 48 ∷ 44 ∷ 50 ∷ 48 ∷ 49 ∷ 48 ∷ 44 ∷ 53 ∷ 53 ∷ 44 ∷ 53 ∷ 53 ∷ 44 ∷ 48 ∷ 44 ∷ 53 ∷ 53 ∷ 10 ∷ [])
    ∷ (82 ∷ 44 ∷ 55 ∷ 44 ∷ 50 ∷ 48 ∷ 49 ∷ 49 ∷ 44 ∷ 50 ∷ 48 ∷ 49 ∷ 50 ∷ 44 ∷ 45 ∷ 49 ∷ 53 ∷ 44 ∷ 48 ∷ 44 ∷ 49 ∷ 53 ∷ 44 ∷ 52 ∷ 48 ∷ 10 ∷ [])
    ∷ (82 ∷ 44 ∷ 55 ∷ 44 ∷ 50 ∷ 48 ∷ 49 ∷ 51 ∷ 44 ∷ 50 ∷ 48 ∷ 49 ∷ 51 ∷ 44 ∷ 53 ∷ 48 ∷ 44 ∷ 53 ∷ 48 ∷ 44 ∷ 48 ∷ 44 ∷ 57 ∷ 48 ∷ 10 ∷ [])
    ∷ (88 ∷ 44 ∷ 49 ∷ 48 ∷ 44 ∷ 50 ∷ 56 ∷ 10 ∷ [])
    ∷ (87 ∷ 44 ∷ 55 ∷ 44 ∷ 57 ∷ 48 ∷ 10 ∷ [])
    ∷ []

abbrev sheet : List (List ℕ)
sheet = lines_of (joined printed)

pub record Examples : Type 0 where
  pub received : sum_by received_shown sheet ≡ 105
  pub due : sum_by due_shown sheet ≡ 105
  pub withdrawn : last_balance sheet 7 ≡ 0
  pub third : last_balance (take 3 sheet) 7 ≡ 90
  pub third_summed : sum_to 20 (last_balance (take 3 sheet)) ≡ 90
  pub unnamed : last_balance sheet 10 ≡ 0

pub examples_hold : Examples
unfolding sum_by extend split joined lines_of number_shown received_shown due_shown balance_after last_balance sum_to
examples_hold = record { received = refl; due = refl; withdrawn = refl; third = refl; third_summed = refl; unnamed = refl }
