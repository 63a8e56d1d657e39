-- The arithmetic of an account. Tonnes stray from kilograms by half a tonne a return, and the strayings add up. The balance is the sum less
-- its lowest: a gain raises both balance and sum, and of a loss the balance bears what it holds while the rest lowers the lowest.
use Rattle.laws.proofs.{ℕ, suc, ◌+◌, ◌*◌, ◌-◌, ◌≤◌, min, ◌≡◌, refl, arith}
use lib.IntN.{ℤ, pos, neg_ℤ, nat_abs, ◌+ℤ◌, ◌-ℤ◌, ◌*ℤ◌}
use Rattle.laws.proofs.Signed.{above, below, one_side, ℤ-same, ℤ-read, neg_read, add_read, diff_read, times_read, abs_read, min-read}
use Rattle.units.specs.{Change, value, nearest_tonne}
use Rattle.units.proofs.Rounding.{within_half}
use Rattle.step_file.specs.{received_of, due_of}
use Rattle.theorem_ledger.specs.{lesser}

-- a thousand times a sum of tonnes is within 500 kg for each return of the change of a stock
abbrev pub Near : ℤ → ℕ → ℕ → ℕ → Type 0
Near sum opening closing returns = nat_abs (pos 1000 *ℤ sum -ℤ (pos closing -ℤ pos opening)) ≤ 500 * returns

-- the same in naturals
record Within (sum : ℤ) (opening closing returns : ℕ) : Type 0 where
  over : 1000 * above sum + opening ≤ 1000 * below sum + closing + 500 * returns
  short : 1000 * below sum + closing ≤ 1000 * above sum + opening + 500 * returns

module _ (sum : ℤ) (opening closing returns : ℕ) where
  near_within : Near sum opening closing returns → Within sum opening closing returns
  near_within h =
      let d : ℤ = pos closing -ℤ pos opening in
      let k : ℤ = pos 1000 *ℤ sum in
      omega (arith, h, diff_read (pos closing) (pos opening), diff_read k d, times_read 1000 sum, abs_read (k -ℤ d))

  within-near : Within sum opening closing returns → Near sum opening closing returns
  within-near h =
      let d : ℤ = pos closing -ℤ pos opening in
      let k : ℤ = pos 1000 *ℤ sum in
      omega (arith, h, diff_read (pos closing) (pos opening), diff_read k d, times_read 1000 sum, abs_read (k -ℤ d), one_side (k -ℤ d))

pub near-start : Near (pos 0) 0 0 0
near-start = within-near (pos 0) 0 0 0 (omega arith)

-- a stock added to both
pub near-added : (sum : ℤ) (opening closing returns more : ℕ) → Near sum opening closing returns → Near sum (opening + more) (closing + more) returns
near-added sum opening closing returns more h =
    within-near sum (opening + more) (closing + more) returns (omega (arith, near_within sum opening closing returns h))

-- a return more
pub near-more : (sum : ℤ) (opening closing returns next : ℕ) → Near sum opening closing returns
    → Near (sum +ℤ nearest_tonne (pos next -ℤ pos closing)) opening next (suc returns)
near-more sum opening closing returns next h =
    let x : ℤ = nearest_tonne (pos next -ℤ pos closing) in
    within-near (sum +ℤ x) opening next (suc returns)
    (omega (arith, near_within sum opening closing returns h, near_within x closing next 1 (within_half (pos next -ℤ pos closing)), add_read sum x))

-- the balance of an account is its running sum less the lowest, which is not above nought
pub record Held (balance : ℕ) (sum lowest : ℤ) : Type 0 where
  pub held : pos balance ≡ sum -ℤ lowest
  pub low : above lowest ≡ 0

record HeldReads (balance : ℕ) (sum lowest : ℤ) : Type 0 where
  held : balance + below sum ≡ above sum + below lowest
  low : above lowest ≡ 0

held_reads : (b : ℕ) (s w : ℤ) → Held b s w → HeldReads b s w
held_reads b s w h = record { held = omega (arith, ℤ-read (pos b) (s -ℤ w) h.held, diff_read s w, h.low); low = h.low }

reads_held : (b : ℕ) (s w : ℤ) → HeldReads b s w → Held b s w
reads_held b s w h = record { held = ℤ-same (pos b) (s -ℤ w) (omega (arith, h.held, diff_read s w, h.low)); low = h.low }

pub held_start : Held 0 (pos 0) (pos 0)
held_start = record { held = refl; low = refl }

-- the balance after a change
pub held_more : (balance : ℕ) (sum lowest : ℤ) (c : Change) → Held balance sum lowest
    → Held (balance + received_of c - due_of c balance) (sum +ℤ value c) (lesser lowest (sum +ℤ value c))
unfolding value
held_more b s w (Change.Gain t) h =
    let z : ℤ = s +ℤ pos t in
    reads_held (b + t - 0) z (lesser w z) (omega (arith, held_reads b s w h, add_read s (pos t), min-read w z, one_side z, one_side s))
held_more b s w (Change.Loss t) h =
    let x : ℤ = neg_ℤ (pos t) in
    let z : ℤ = s +ℤ x in
    reads_held (b + 0 - min t b) z (lesser w z)
    (omega (arith, held_reads b s w h, neg_read (pos t), add_read s x, min-read w z, one_side z, one_side s))

-- of an account with units received and surrendered: its balance is the difference, before a change and after it
module _ (received surrendered balance : ℕ) (paid : received ≡ surrendered + balance) where
  pub balance_is : received - surrendered ≡ balance
  balance_is = omega arith

  pub balance-more : (c : Change) → received + received_of c - (surrendered + due_of c balance) ≡ balance + received_of c - due_of c balance
  balance-more (Change.Gain t) = omega arith
  balance-more (Change.Loss t) = omega arith

  -- what is due is never over the balance
  pub paid-more : (c : Change) → received + received_of c ≡ surrendered + due_of c balance + (balance + received_of c - due_of c balance)
  paid-more (Change.Gain t) = omega arith
  paid-more (Change.Loss t) = omega arith
