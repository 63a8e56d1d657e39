-- "Owners file the sheet whole and want it to add up."
use Rattle.laws.specs.{ℕ, List, length, sum_by, pos}
use Rattle.std.specs.Prelude.{◌<◌, ◌≤◌, ◌≡◌, ◌++◌, ◌-ℤ◌}
use Rattle.ranges.specs.{last_area}
use Rattle.book_print.specs.{foot_text, end_text}
use Rattle.book_listing.specs.{lines_of, longest_book, refused_book, listing_of}
use Rattle.theorem_foot.specs.Sheet.{received_shown, due_shown, last_balance, sum_to}

-- a listing whose foot adds up with the sheet above it
pub record AddsUp (listing : List ℕ) : Type 0 where
  pub above : List ℕ
  pub received : ℕ
  pub surrendered : ℕ
  pub balance : ℕ
  pub accepted : ℕ
  pub refused : ℕ
  -- the foot stands straight before E, below whole lines
  pub closed : listing ≡ above ++ (foot_text received surrendered balance ++ end_text accepted refused)
  pub whole : lines_of listing ≡ lines_of above ++ lines_of (foot_text received surrendered balance ++ end_text accepted refused)
  -- received is what the R lines show as received, surrendered what the R and W lines show as due, and the balance the sum over areas of the last one shown
  pub received_is_shown : received ≡ sum_by received_shown (lines_of above)
  pub surrendered-shown : surrendered ≡ sum_by due_shown (lines_of above)
  pub balance-shown : balance ≡ sum_to last_area (last_balance (lines_of above))
  -- "Received less surrendered must equal the balance."
  pub paid : pos received -ℤ pos surrendered ≡ pos balance

-- for every book: "an oversized book still prints its two lines alone"
pub record Footed (book : List ℕ) : Type 0 where
  pub oversized : longest_book < length book → listing_of book ≡ refused_book
  pub adds_up : length book ≤ longest_book → AddsUp (listing_of book)
