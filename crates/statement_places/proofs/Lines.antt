-- What is read stands in the bytes as the writer writes it: each field stands where it was read, and the fields follow one another.
use Rattle.laws.proofs.{ℕ, zero, suc, ◌≤◌, ◌<◌, ◌≡◌, refl, subst, List, arith, eqb, take}
use Rattle.holding.specs.{empty_sub}
use Rattle.statement_format.specs.{number_text, joined, texts, flag, residue_text, sub_text, years_text, amounts_text, area_text}
use Rattle.statement_format.proofs.Residues.{sub_text_lem}
use Rattle.statement_cursor.specs.{number_at}
use Rattle.statement_parse.specs.{most8, most16, most32, most_read, residue_at, sub_line_at, subs_from, subs_within, years_at, amounts_at, area_line_within}
use Rattle.statement_places.proofs.Places.{There, stands_none, stands_then}
use Rattle.statement_places.proofs.Values.{number_there, number_small, type_there}
use Rattle.statement_places.proofs.Starts.{line_there}
use Rattle.statement_places.proofs.Items.{filled_there}

module _ (s : List ℕ) (at : ℕ) where
  residue_there : 0 < (residue_at s at).next → There s at (residue_text (residue_at s at).residue 10) (residue_at s at).next
  unfolding residue_at residue_text joined
  residue_there h =
      let year = number_there s _ 10 most16 h in
      let age = number_there s _ 44 most16 year.started in
      let type = type_there s at 44 age.started in
      record {
        started = type.started;
        stands = stands_then type.stands (stands_then age.stands (stands_then year.stands (stands_none s _)));
      }

module _ (s : List ℕ) (at : ℕ) where
  sub_there : 0 < (sub_line_at s at).next → There s at (sub_text (sub_line_at s at).sub) (sub_line_at s at).next
  unfolding sub_line_at joined
  sub_there h =
      let residue = residue_there s _ h in
      let planted = number_there s _ 44 most16 residue.started in
      let type = type_there s _ 44 planted.started in
      let tenths = number_there s _ 44 most32 type.started in
      let number = number_there s _ 44 most8 tenths.started in
      let start = line_there s at 83 number.started in
      record {
        started = start.started;
        stands =
            rw sub_text_lem
            (stands_then start.stands
            (stands_then number.stands
            (stands_then tenths.stands
            (stands_then type.stands (stands_then planted.stands (stands_then residue.stands (stands_none s _)))))));
      }

flag_back : (v : ℕ) → v ≤ 1 → v ≡ flag (eqb v 1)
flag_back zero h = refl
flag_back (suc zero) h = refl
flag_back (suc (suc v)) h = absurd (omega arith)

module _ (s : List ℕ) (at : ℕ) where
  flag_there : 0 < (number_at s at 44 1).next → There s at (number_text (flag (eqb (number_at s at 44 1).value 1)) 44) (number_at s at 44 1).next
  flag_there h =
      let field = number_at s at 44 1 in
      subst (λ (v : ℕ). There s at (number_text v 44) field.next) (flag_back field.value (number_small s at 44 1)) (number_there s at 44 1 h)

  subs_there : (most count : ℕ) → count ≤ most → 0 < (subs_within most s at count).1
      → There s at (texts sub_text (take count (subs_within most s at count).0)) (subs_within most s at count).1
  unfolding subs_within subs_from
  subs_there most count room h = filled_there (λ p. (sub_line_at s p).sub) (λ p. (sub_line_at s p).next) s sub_text (sub_there s) empty_sub most count at room h

module _ (most : ℕ) (s : List ℕ) (at : ℕ) where
  pub area_there : 0 < (area_line_within most s at).next → There s at (area_text (area_line_within most s at).area) (area_line_within most s at).next
  unfolding area_line_within years_at amounts_at area_text years_text amounts_text joined
  area_there h =
      let subs = subs_there s _ most _ (number_small s _ 10 most) h in
      let count = number_there s _ 10 most subs.started in
      let surrendered = number_there s _ 44 most_read count.started in
      let received = number_there s _ 44 most_read surrendered.started in
      let stock = number_there s _ 44 most_read received.started in
      let returns = number_there s _ 44 most16 stock.started in
      let withdrawn = flag_there s _ returns.started in
      let latest = number_there s _ 44 most16 withdrawn.started in
      let open_year = number_there s _ 44 most16 latest.started in
      let opening = number_there s _ 44 most16 open_year.started in
      let number = number_there s _ 44 most16 opening.started in
      let start = line_there s at 65 number.started in
      let years =
      stands_then number.stands
      (stands_then opening.stands (stands_then open_year.stands (stands_then latest.stands (stands_none s _)))) in
      let amounts =
      stands_then withdrawn.stands
      (stands_then returns.stands
      (stands_then stock.stands (stands_then received.stands (stands_then surrendered.stands (stands_none s _))))) in
      record {
        started = start.started;
        stands =
            stands_then start.stands
            (stands_then years (stands_then amounts (stands_then count.stands (stands_then subs.stands (stands_none s _)))));
      }
