-- A sub-area's line has the text of the residue that it holds, which is B,0,0 where there is none.
use Rattle.laws.proofs.{ℕ, ◌≡◌, refl, ap, List, [], ◌∷◌}
use Rattle.holding.specs.{Sub, residues_of}
use Rattle.holding.proofs.Residues.{by_residue}
use Rattle.statement_format.specs.{start_text, number_text, type_text, joined, residue_text, residues_text, sub_text}

residues_text_lem : (sub : Sub) → residues_text (residues_of sub) ≡ residue_text sub.residue 10
unfolding residues_text
residues_text_lem sub = by_residue (λ residue residues. residues_text residues ≡ residue_text residue 10) refl (λ residue some. refl) sub.residue

-- the pieces of a sub-area's line, with what it says of residues
abbrev pub sub_pieces : Sub → List ℕ → List (List ℕ)
sub_pieces sub residues =
    start_text 83 ∷ number_text sub.number 44 ∷ number_text sub.tenths.0 44 ∷ type_text sub.forest 44 ∷ number_text sub.planted 44 ∷ residues ∷ []

pub sub_text_lem : (sub : Sub) → sub_text sub ≡ joined (sub_pieces sub (residue_text sub.residue 10))
unfolding sub_text
sub_text_lem sub = ap (λ (residues : List ℕ). joined (sub_pieces sub residues)) (residues_text_lem sub)
