-- What a line is read as is within the ranges of document 01's "Entries": the cases of its letter's rule, of which none applies, say so.
use Rattle.std.specs.Prelude.{Ok, Some, None, Option, Err}
use Rattle.laws.proofs.{ℕ, suc, ◌+◌, ◌/◌, ◌≤◌, ◌≡◌, refl, subst, true, false, ◌&&◌, List, arith, le-leb, ltb-false, eq-eqb, leb, ltb}
use Rattle.laws.proofs.Elements.{or_false_left, or_false_right, clash}
use Rattle.text.specs.{split}
use Rattle.refusals.specs.{smallest}
use Rattle.refusals.proofs.Laws.{RuledOut, ruled_out}
use Rattle.units.specs.{tenths_of}
use Rattle.forest.specs.{Forest}
use Rattle.text_number.specs.{Number, Unread}
use Rattle.text_value.specs.{outside, value_of}
use Rattle.ranges.specs.{is_bare, is_area, is_sub, is_year, is_land, is_planted}
use Rattle.line_entry.specs.{Act, Entry, number_at, hectares_at, type_at, bad_area, bad_sub, bad_year, Rule, area_and_year, open_rule, add_rule, clear_rule, plant_rule, file_rule, withdraw_rule, Parsed}
use Rattle.line_type.specs.{unlisted, unplantable, misdated, forest_of}
use Rattle.line_column.specs.{column_rule}
use Rattle.line.specs.{body_of, letter_of, no_rule, rule_of, line_rule, conditions, entry_of}
use Rattle.line.proofs.Letters.{of_letters}
use Rattle.line.proofs.Columns.{taken_by}

-- an act whose fields are within their ranges, and an entry whose area is too
abbrev pub Ranged : Act → Type 0
Ranged (Act.Open opening) = is_year opening ≡ true
Ranged (Act.Add sub land forest year) = (is_sub sub ≡ true) × (is_land land ≡ true) × (is_planted forest year ≡ true)
Ranged (Act.Clear sub year) = (is_sub sub ≡ true) × (is_year year ≡ true)
Ranged (Act.Plant sub forest year) = (is_sub sub ≡ true) × (is_bare forest ≡ false) × (is_year year ≡ true)
Ranged (Act.File last) = is_year last ≡ true
Ranged Act.Withdraw = Unit

abbrev pub EntryRanged : Entry → Type 0
EntryRanged (Entry.Column column) = Unit
EntryRanged (Entry.On on) = (is_area on.area ≡ true) × Ranged on.act

within : (low high : ℕ) (n : Number) → outside low high n ≡ false → (low ≤ value_of n) × (value_of n ≤ high)
within low high (Ok n) e = (ltb-false n low (or_false_left _ (ltb high n) e), ltb-false high n (or_false_right (ltb n low) _ e))
within low high (Err Unread.Large) e = clash e
within low high (Err Unread.Malformed) e = clash e

in_range : (low high : ℕ) (n : Number) → outside low high n ≡ false → leb low (value_of n) && leb (value_of n) high ≡ true
in_range low high n e = let w = within low high n e in rw (le-leb low (value_of n) w.0, le-leb (value_of n) high w.1)

-- hectares as entered, 1 to 10000, are 10 to 100000 tenths
land_range : (n : Number) → outside 10000 100000000 n ≡ false → is_land (tenths_of (value_of n)) ≡ true
unfolding tenths_of
land_range n e =
    let w = within 10000 100000000 n e in
    let low : 10 ≤ (value_of n + 500) / 1000 = omega (arith, w.0) in
    let high : (value_of n + 500) / 1000 ≤ 100000 = omega (arith, w.1) in
    rw (le-leb 10 ((value_of n + 500) / 1000) low, le-leb ((value_of n + 500) / 1000) 100000 high)

planted_range : (type : Option Forest) (n : Number) → unlisted type ≡ false → misdated type n ≡ false → is_planted (forest_of type) (value_of n) ≡ true
planted_range None n u e = clash u
planted_range (Some Forest.Bare) n u e = let w = within 0 0 n e in rw (eq-eqb (value_of n) 0 (omega (arith, w.1)))
planted_range (Some (Forest.Radiata region)) n u e = in_range 1900 2199 n e
planted_range (Some Forest.DouglasFir) n u e = in_range 1900 2199 n e
planted_range (Some Forest.ExoticSoftwoods) n u e = in_range 1900 2199 n e
planted_range (Some Forest.ExoticHardwoods) n u e = in_range 1900 2199 n e
planted_range (Some Forest.Indigenous) n u e = in_range 1900 2199 n e

plantable : (type : Option Forest) → unplantable type ≡ false → is_bare (forest_of type) ≡ false
plantable None e = clash e
plantable (Some Forest.Bare) e = clash e
plantable (Some (Forest.Radiata region)) e = refl
plantable (Some Forest.DouglasFir) e = refl
plantable (Some Forest.ExoticSoftwoods) e = refl
plantable (Some Forest.ExoticHardwoods) e = refl
plantable (Some Forest.Indigenous) e = refl

-- a rule whose entry is within its ranges where none of its cases applies
abbrev Sound : Rule → Type 0
Sound rule = RuledOut rule.cases → EntryRanged rule.entry

module _ (fs : List (List ℕ)) where
  area_range : (k : ℕ) → bad_area (number_at fs k) ≡ false → is_area (value_of (number_at fs k)) ≡ true
  area_range k e = in_range 1 999 (number_at fs k) e

  sub_range : (k : ℕ) → bad_sub (number_at fs k) ≡ false → is_sub (value_of (number_at fs k)) ≡ true
  sub_range k e = in_range 1 99 (number_at fs k) e

  year_range : (k : ℕ) → bad_year (number_at fs k) ≡ false → is_year (value_of (number_at fs k)) ≡ true
  year_range k e = in_range 2008 2199 (number_at fs k) e

  open_sound : Sound (open_rule fs)
  unfolding open_rule area_and_year
  open_sound n = (area_range 1 (n 3), year_range 2 (n 4))

  file_sound : Sound (file_rule fs)
  unfolding file_rule area_and_year
  file_sound n = (area_range 1 (n 3), year_range 2 (n 4))

  add-sound : Sound (add_rule fs)
  unfolding add_rule
  add-sound n = (
    area_range 1 (n 5),
    (
      sub_range 2 (n 6),
      land_range (hectares_at fs 3) (n 8),
      planted_range (type_at fs 4) (number_at fs 5) (n 7) (n 9),
    ),
  )

  clear_sound : Sound (clear_rule fs)
  unfolding clear_rule
  clear_sound n = (area_range 1 (n 4), (sub_range 2 (n 5), year_range 3 (n 6)))

  plant_sound : Sound (plant_rule fs)
  unfolding plant_rule
  plant_sound n =
      (area_range 1 (n 4), (sub_range 2 (n 5), plantable (type_at fs 3) (n 6), year_range 4 (n 7)))

  withdraw_sound : Sound (withdraw_rule fs)
  unfolding withdraw_rule
  withdraw_sound n = (area_range 1 (n 2), tt)

  column_sound : Sound (column_rule fs)
  unfolding column_rule
  column_sound n = tt

  none_sound : Sound no_rule
  unfolding no_rule
  none_sound n = clash (n 0)

  rule_sound : (letter : ℕ) → Sound (rule_of letter fs)
  rule_sound = of_letters Sound fs column_sound open_sound add-sound clear_sound plant_sound file_sound withdraw_sound none_sound

pub entry_ranged : (line : List ℕ) (entry : Entry) → entry_of line ≡ Ok entry → EntryRanged entry
unfolding entry_of conditions line_rule
entry_ranged line entry e =
    let body = body_of line in
    let t = taken_by (smallest (conditions body)) (line_rule body).entry entry e in
    let none = ruled_out (conditions body) t.0 in
    subst EntryRanged t.1 (rule_sound (split body) (letter_of body) (λ i. none (suc (suc i))))
