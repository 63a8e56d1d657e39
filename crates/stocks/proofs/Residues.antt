-- The residue of a sub-area is the stock of the one that it holds: where it holds none, that is bare land's, whose rate is 0.
use Rattle.laws.proofs.{ℕ, ◌-◌, ◌<◌, ◌≡◌, refl, sym, ap, Bool, true, false, cond, List, leb, lt-leb}
use native.Mathlib.Nat.{add-zero, mul-zero, zero-mul}
use Rattle.laws.specs.{sum_by}
use Rattle.units.specs.{Tenths, no_kilograms, residue_of}
use Rattle.units.proofs.Sums.{kilograms}
use Rattle.forest.specs.{Forest}
use Rattle.schedules.specs.{Kind}
use Rattle.rates.specs.{rate_six, share_after}
use Rattle.rates.proofs.BareLand.{none_on_bare}
use Rattle.holding.specs.{Residue, Sub, no_residue, residues_in}
use Rattle.holding.proofs.Residues.{by_residue}
use Rattle.stocks.specs.{one_residue_on, residue_on}

module _ (own default : List ℕ) (land : Tenths) (y : ℕ) where
  stock : Residue → ℕ
  stock residue = (one_residue_on own default land residue y).0

  none_left : 0 ≡ stock no_residue
  unfolding stock one_residue_on residue_of
  none_left = go (leb y 0)
    where
      go : (t : Bool) → 0 ≡ (cond t no_kilograms (residue_of land (rate_six own default Kind.Residue Forest.Bare 0) (share_after (y - 0)))).0
      go true = refl
      go false = simp (sym (none_on_bare own default Kind.Residue 0), mul-zero, zero-mul)

  one_left : (residue : Residue) → sum_by stock (residues_in residue) ≡ stock residue
  unfolding sum_by
  one_left = by_residue (λ residue residues. sum_by stock residues ≡ stock residue) none_left (λ residue some. add-zero (stock residue))

pub residue_alone : (own default : List ℕ) (sub : Sub) (y : ℕ) → residue_on own default sub y ≡ one_residue_on own default sub.tenths sub.residue y
unfolding residue_on stock
residue_alone own default sub y = ap kilograms (one_left own default sub.tenths y sub.residue)

-- of a residue that has decayed nothing is left, whatever its rate
pub decayed : (own default : List ℕ) (sub : Sub) (y : ℕ) → sub.residue.year < y → share_after (y - sub.residue.year) ≡ 0 → no_kilograms ≡ residue_on own default sub y
unfolding one_residue_on residue_of
decayed own default sub y h e = simp (residue_alone own default sub y, lt-leb y sub.residue.year h, e, mul-zero)
