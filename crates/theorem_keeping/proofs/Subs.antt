-- The test of a sub-area of an area, read as facts and made from them; it looks at the area's opening and latest year alone, and stands
-- where the latest year grows.
use Rattle.laws.proofs.{ℕ, ◌≤◌, max, Bool, true, false, cond, ◌≡◌, refl, sym, ◌∙◌, arith, leb-true, le-leb, eqb-true, eq-eqb}
use Rattle.laws.specs.{every}
use Rattle.laws.proofs.Tests.{AllTrue, all_true, true_all}
use Rattle.laws.proofs.Elements.{clash}
use Rattle.ranges.specs.{is_bare, is_sub, is_land, is_planted}
use Rattle.holding.specs.{Residue, Sub, Area, residues_in}
use Rattle.statement_carried.specs.{residue_carried, sub_carried}
use Rattle.statement_carried.proofs.Residues.{nought, ranged, residues_carried}

pub record ResidueKept (opening latest : ℕ) (residue : Residue) : Type 0 where
  pub none : is_bare residue.forest ≡ true → (residue.age ≡ 0) × (residue.year ≡ 0)
  pub left : is_bare residue.forest ≡ false → (opening ≤ residue.year) × (residue.year ≤ latest) × (residue.age ≤ 299)

pub record SubKept (opening latest : ℕ) (sub : Sub) : Type 0 where
  pub number : is_sub sub.number ≡ true
  pub land : is_land sub.tenths ≡ true
  pub trees : is_planted sub.forest sub.planted ≡ true
  pub planted : sub.planted ≤ max opening latest
  pub residue : ResidueKept opening latest sub.residue

module _ (opening latest later : ℕ) (grows : latest ≤ later) where
  pub residue_later : (residue : Residue) → ResidueKept opening latest residue → ResidueKept opening later residue
  residue_later residue k = record { none = k.none; left = λ e. let h = k.left e in (h.0, omega (arith, h.1), h.2) }

  pub sub_later : (sub : Sub) → SubKept opening latest sub → SubKept opening later sub
  sub_later sub k = record {
    number = k.number;
    land = k.land;
    trees = k.trees;
    planted = let h : sub.planted ≤ max opening latest = k.planted in omega arith;
    residue = residue_later sub.residue k.residue;
  }

module _ (area : Area) where
  module _ (residue : Residue) where
    residue_read : every (residue_carried area) (residues_in residue) ≡ true → ResidueKept area.opening area.latest residue
    unfolding AllTrue
    residue_read e =
        let t = sym (residues_carried area residue) ∙ e in
        record { none = λ b. no_residue_lem (is_bare residue.forest) b t; left = λ b. some_residue (is_bare residue.forest) b t }
      where
        no_residue_lem : (bare : Bool) → bare ≡ true → cond bare (nought residue) (ranged area residue) ≡ true → (residue.age ≡ 0) × (residue.year ≡ 0)
        no_residue_lem true b e = let t = all_true _ e in (eqb-true _ _ t.0, eqb-true _ _ t.1.0)
        no_residue_lem false b e = clash (sym b)

        some_residue : (bare : Bool) → bare ≡ false → cond bare (nought residue) (ranged area residue) ≡ true
            → (area.opening ≤ residue.year) × (residue.year ≤ area.latest) × (residue.age ≤ 299)
        some_residue true b e = clash b
        some_residue false b e = let t = all_true _ e in (leb-true _ _ t.0, leb-true _ _ t.1.0, leb-true _ _ t.1.1.0)

    residue_carried_lem : ResidueKept area.opening area.latest residue → every (residue_carried area) (residues_in residue) ≡ true
    unfolding AllTrue
    residue_carried_lem k = residues_carried area residue ∙ go (is_bare residue.forest) k.none k.left
      where
        go : (bare : Bool) → (bare ≡ true → (residue.age ≡ 0) × (residue.year ≡ 0))
            → (bare ≡ false → (area.opening ≤ residue.year) × (residue.year ≤ area.latest) × (residue.age ≤ 299))
            → cond bare (nought residue) (ranged area residue) ≡ true
        go true none left = let h = none refl in true_all _ (eq-eqb _ _ h.0, (eq-eqb _ _ h.1, tt))
        go false none left = let h = left refl in true_all _ (le-leb _ _ h.0, (le-leb _ _ h.1, (le-leb _ _ h.2, tt)))

  module _ (sub : Sub) where
    pub sub_read : sub_carried area sub ≡ true → SubKept area.opening area.latest sub
    unfolding sub_carried AllTrue
    sub_read e =
        let t = all_true _ e in
        record {
          number = t.0;
          land = t.1.0;
          trees = t.1.1.0;
          planted = leb-true _ _ t.1.1.1.0;
          residue = residue_read sub.residue t.1.1.1.1.0;
        }

    pub sub_carried_lem : SubKept area.opening area.latest sub → sub_carried area sub ≡ true
    unfolding sub_carried AllTrue
    sub_carried_lem k =
        true_all _
        (k.number, (k.land, (k.trees, (le-leb _ _ k.planted, (residue_carried_lem sub.residue k.residue, tt)))))
