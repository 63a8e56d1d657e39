-- The foot, by whether a statement carries the fields of every area: F and the units, which are few, or X.
use Rattle.laws.proofs.{◌≤◌, ◌≡◌, refl, true, false, arith, length}
use Rattle.refusals.specs.{Refusal, weighed, weigh_all, smallest}
use Rattle.holding.specs.{Holding}
use Rattle.holding_look.specs.{units_of}
use Rattle.book_print.specs.{refusal_text}
use Rattle.book_print.proofs.Lengths as lengths
use Rattle.book_foot.specs.{units_text, all_carried, summable, foot_of, most_for_foot}
use Rattle.book_foot.proofs.Carried.{received-few, surrendered-few, balance-few}

module _ (holding : Holding) where
  pub foot_stands : all_carried holding ≡ true → units_text (units_of holding) ≡ foot_of holding
  unfolding foot_of summable smallest weigh_all weighed
  foot_stands e = rw e refl

  pub foot_refused : all_carried holding ≡ false → refusal_text 0 Refusal.CarriedStatement ≡ foot_of holding
  unfolding foot_of summable smallest weigh_all weighed
  foot_refused e = rw e refl

  pub foot_few : all_carried holding ≡ true → length (units_text (units_of holding)) ≤ most_for_foot
  foot_few e = lengths.foot_few 12 _ _ _ (omega (arith, received-few holding e)) (omega (arith, surrendered-few holding e)) (omega (arith, balance-few holding e))
