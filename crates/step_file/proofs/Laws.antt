-- Bounds on what a return makes received and due.
use Rattle.laws.proofs.{ℕ, ◌-◌, ◌<◌, ◌≤◌, Bool, true, false, cond, ◌≡◌, arith, leb}
use Rattle.units.specs.{Kilograms, Change, tonnes, change_between}
use Rattle.step_file.specs.{received_of, due_of}

-- the tonnes of a 64-bit number of kilograms
pub received_at_most : (opening closing : Kilograms) (change : Change) (n : ℕ) → n ≡ received_of change → change ≡ change_between opening closing
    → closing.0 < 18446744073709551616 → n ≤ 18446744073709552
unfolding change_between tonnes
received_at_most opening closing change n e f h = rw (e, f) (go (leb opening.0 closing.0))
  where
    go : (t : Bool) → received_of (cond t (Change.Gain (tonnes (closing.0 - opening.0))) (Change.Loss (tonnes (opening.0 - closing.0)))) ≤ 18446744073709552
    go true = omega arith
    go false = omega arith

pub due_at_most : (change : Change) (balance n : ℕ) → n ≡ due_of change balance → n ≤ balance
due_at_most (Change.Gain t) balance n e = omega arith
due_at_most (Change.Loss t) balance n e = omega arith

-- the smaller of a loss and the balance
pub due_loss : (change : Change) (t balance : ℕ) → change ≡ Change.Loss t → t < balance → t ≡ due_of change balance
due_loss change t balance e h = rw e (omega arith)

pub due_balance : (change : Change) (t balance : ℕ) → change ≡ Change.Loss t → balance ≤ t → balance ≡ due_of change balance
due_balance change t balance e h = rw e (omega arith)
