-- The bytes of two statements, computed: the empty holding's, and one of an area with a sub-area that was cleared and planted again.
use Rattle.laws.proofs.{true, ◌≡◌, refl, [], ◌∷◌}
use Rattle.text.specs.{digits_in, digits}
use Rattle.forest.specs.{letters_of, Forest}
use Rattle.holding.specs.{Holding, empty_holding, residues_in}
use Rattle.statement_format.specs.{start_text, number_text, type_text, joined, texts, residue_text, residues_text, sub_text, years_text, amounts_text, area_text, statement_of}

-- H,0
pub empty_statement : statement_of empty_holding ≡ 72 ∷ 44 ∷ 48 ∷ 10 ∷ []
unfolding digits_in digits start_text number_text joined texts statement_of
empty_statement = refl

abbrev planted : Holding
planted = record {
  count = 1;
  areas =
      record {
        number = 7;
        opening = 2010;
        open_year = 2014;
        latest = 2011;
        withdrawn = true;
        returns = 3;
        stock = record { 0 = 135 };
        received = 105;
        surrendered = 90;
        count = 1;
        subs =
            record {
              number = 1;
              tenths = record { 0 = 100 };
              forest = Forest.DouglasFir;
              planted = 2011;
              residue = record { forest = Forest.DouglasFir; age = 3; year = 2012 };
            }
            ∷ [];
      }
      ∷ [];
}

-- H,1 A,7,2010,2014,2011,1,3,135,105,90,1 S,1,100,D,2011,D,3,2012, each line ended with byte 10
pub area-statement : statement_of planted ≡
    72 ∷ 44 ∷ 49 ∷ 10 ∷ 65 ∷ 44 ∷ 55 ∷ 44 ∷ 50 ∷ 48 ∷ 49 ∷ 48 ∷ 44 ∷ 50 ∷ 48 ∷ 49 ∷ 52 ∷ 44 ∷ 50 ∷ 48 ∷ 49 ∷ 49 ∷ 44 ∷ 49 ∷ 44 ∷ 51 ∷ 44 ∷ 49 ∷ 51 ∷ 53 ∷ 44 ∷ 49 ∷ 48 ∷ 53 ∷ 44 ∷ 57 ∷ 48 ∷ 44 ∷ 49 ∷ 10 ∷ 83 ∷ 44 ∷ 49 ∷ 44 ∷ 49 ∷ 48 ∷ 48 ∷ 44 ∷ 68 ∷ 44 ∷ 50 ∷ 48 ∷ 49 ∷ 49 ∷ 44 ∷ 68 ∷ 44 ∷ 51 ∷ 44 ∷ 50 ∷ 48 ∷ 49 ∷ 50 ∷ 10 ∷ []
unfolding digits_in digits letters_of start_text number_text type_text joined texts residues_in residue_text residues_text sub_text years_text amounts_text area_text statement_of
area-statement = refl
