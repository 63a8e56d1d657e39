-- A statement of one sub-area more than document 01's limit, and an area of one tonne more for its return: the limits in force accept both, and document
-- 01's neither.
use Rattle.std.specs.Prelude.{Ok, Err}
use Rattle.laws.proofs.{ℕ, true, false, ◌≡◌, refl, List, [], ◌∷◌, length}
use Rattle.laws.specs.{all_of, some, every, distinct}
use Rattle.refusals.specs.{weighed, weigh_all, smallest, Refusal, Verdict}
use Rattle.forest.specs.{letters_of, beside, letter_names, region_names, named, Forest}
use Rattle.text.specs.{width_to, digits_in, digits}
use Rattle.text_number.specs.{append, more, headed, number_in}
use Rattle.holding.specs.{Sub, Area, no_residue, opened_area, with_subs, with_units, with_returns, residues_in}
use Rattle.statement_carried.specs.{first_limits, amounts_carried, years_carried, amounts_within, fields_within, residue_carried, sub_carried, area_within, carried_within}
use Rattle.statement_format.specs.{start_text, number_text, type_text, joined, texts, residue_text, residues_text, sub_text, years_text, amounts_text, area_text, statement_of}
use Rattle.statement_cursor.specs.{field_of, field_by, number_before, number_at, type_before, type_at, start_at, line_at}
use Rattle.statement_parse.specs.{residue_at, sub_line_at, items_from, subs_from, subs_within, years_at, amounts_at, area_line_within, areas_from_within, areas_within, holding_within}
use Rattle.statement.specs.{acceptable_within, read_within, read_of}

-- bare land of one hectare
abbrev land : ℕ → Sub
land number = record { number = number; tenths = record { 0 = 10 }; forest = Forest.Bare; planted = 0; residue = no_residue }

abbrev lands : List Sub
lands =
    land 1 ∷ land 2 ∷ land 3 ∷ land 4 ∷ land 5 ∷ land 6 ∷ land 7 ∷ land 8 ∷ land 9 ∷ land 10 ∷ land 11 ∷ land 12 ∷ land 13 ∷ land 14 ∷ land 15 ∷ land 16
    ∷ land 17 ∷ []

abbrev seventeen : List ℕ
seventeen = statement_of (record { count = 1; areas = with_subs (length lands) lands (opened_area 7 2010) ∷ [] })

abbrev one_tonne_more : Area
one_tonne_more = with_units 1000000001 0 (with_returns 2011 1 (opened_area 7 2010))

pub record Widened : Type 0 where
  pub now : (read_of seventeen).verdict ≡ Ok tt
  pub before : (read_within first_limits seventeen).verdict ≡ Err Refusal.CarriedStatement
  pub tonne_now : amounts_carried one_tonne_more ≡ true
  pub tonne_before : amounts_within first_limits one_tonne_more ≡ false

pub widened : Widened
unfolding all_of some every distinct weighed weigh_all smallest letters_of beside letter_names region_names named width_to digits_in digits append more headed number_in residues_in years_carried amounts_within fields_within residue_carried sub_carried area_within carried_within start_text number_text type_text joined texts residue_text residues_text sub_text years_text amounts_text area_text statement_of field_of field_by number_before number_at type_before type_at start_at line_at residue_at sub_line_at items_from subs_from subs_within years_at amounts_at area_line_within areas_from_within areas_within holding_within acceptable_within read_within
widened = record { now = refl; before = refl; tonne_now = refl; tonne_before = refl }
