-- The limits of a statement that requests have moved, and their values by document.
use Rattle.laws.specs.{ℕ}
use Rattle.holding.specs.{most_subs}

-- sub-areas of an area; kilograms of stock for each of them; tonnes received for each return
pub record Limits : Type 0 where
  pub subs : ℕ
  pub stock : ℕ
  pub received : ℕ

-- document 01: "each with up to 16 sub-areas"; "stock is at most 6×10^10 for each sub; received is at most 10^9 for each return"
abbrev pub first_limits : Limits
first_limits = record { subs = 16; stock = 60000000000; received = 1000000000 }

-- those in force: "stock is at most 6×10^10 for each sub"
abbrev pub stock_for_sub : ℕ
stock_for_sub = 60000000000

-- "Received may reach 3×10^9 for each return." (document 02, item 4)
abbrev pub received_for_return : ℕ
received_for_return = 3000000000

abbrev pub limits : Limits
limits = record { subs = most_subs; stock = stock_for_sub; received = received_for_return }
