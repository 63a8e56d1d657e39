-- `stocks::residue_on` meets its contract: none up to the year of the clearing, and none once it has decayed; else the residue of the land at the rate
-- of the age cleared, by what is left of it.
use Rattle.laws.proofs.{◌≡◌, sym, ap, ◌∙◌, arith, le-leb, lt-leb}
use Rattle.rates.specs.{share_after}
use Rattle.stocks.specs.{one_residue_on}
use Rattle.stocks.proofs.Residues.{residue_alone, decayed}
use Rattle.stocks.proofs.residue_on.Goals as goal

pub returns-then-year-residue : goal.returns-then-year-residue
unfolding one_residue_on
returns-then-year-residue c = (simp (residue_alone, c.none.ensures, le-leb _ _ c.if-year-residue.true), simp c.none.ensures (omega arith))

pub returns-then-share-eq0 : goal.returns-then-share-eq0
returns-then-share-eq0 c =
    let none = c.none-then-share-eq0.ensures in
    let gone : share_after _ ≡ 0 = ap share_after (sym c.years_from.ensures) ∙ sym c.share-share.ensures ∙ c.if-share-eq0.true in
    (none ∙ decayed _ _ _ _ c.if-year-residue.false gone, simp none (omega arith))

pub returns : goal.returns
unfolding one_residue_on
returns c = (
  simp (
    residue_alone,
    lt-leb _ _ c.if-year-residue.false,
    c.residue.ensures.0,
    c.rate_six-rate.ensures,
    c.share-share.ensures,
    c.years_from.ensures,
  ),
  c.residue.ensures.1,
)
