-- How long a statement is whose holding is kept: each number has as many digits as its range, and so many lines at most follow one another.
use Rattle.laws.proofs.{ℕ, ◌+◌, ◌*◌, ◌≤◌, Bool, true, false, List, [], ◌∷◌, arith, length, length-append, length-take}
use native.Mathlib.Nat.{mul-suc}
use Rattle.forest.specs.{Forest, letters_of}
use Rattle.holding.specs.{Sub, Area, Holding, most_areas, most_subs, areas_of, subs_of}
use Rattle.statement_format.specs.{start_text, number_text, type_text, joined, texts, residue_text, sub_text, flag, years_text, amounts_text, area_text, statement_of, type_width, years_width, carried_sub_width, carried_area_width, carried_width, field, short_width}
use Rattle.statement_format.proofs.Residues.{sub_text_lem}
use Rattle.statement_field.proofs.Puts.{number-few}
use Rattle.theorem_keeping.specs.{Each, Kept}
use Rattle.theorem_round_trips.proofs.Fitting.{SubFits, AreaFits, holding-fits}

type_few : (forest : Forest) (end : ℕ) → length (type_text forest end) ≤ type_width
unfolding type_text letters_of
type_few Forest.Bare end = omega arith
type_few (Forest.Radiata region) end = omega arith
type_few Forest.DouglasFir end = omega arith
type_few Forest.ExoticSoftwoods end = omega arith
type_few Forest.ExoticHardwoods end = omega arith
type_few Forest.Indigenous end = omega arith

texts-few : {A : Type 0} (P : A → Type 0) (text : A → List ℕ) (most : ℕ) → ((a : A) → P a → length (text a) ≤ most)
    → (l : List A) → Each P l → length (texts text l) ≤ most * length l
unfolding texts Each
texts-few P text most few [] each = omega arith
texts-few P text most few (a ∷ l) each =
    simp length-append (omega (arith, few a each.0, texts-few P text most few l each.1, mul-suc most (length l)))

sub-few : (sub : Sub) → SubFits sub → length (sub_text sub) ≤ carried_sub_width
unfolding residue_text joined start_text
sub-few sub fits =
    simp (sub_text_lem, length-append)
    (omega (
      arith,
      number-few 2 sub.number 44 (omega (arith, fits.number)),
      number-few 9 sub.tenths.0 44 (omega (arith, fits.tenths)),
      type_few sub.forest 44,
      number-few 4 sub.planted 44 (omega (arith, fits.planted)),
      type_few sub.residue.forest 44,
      number-few 4 sub.residue.age 44 (omega (arith, fits.age)),
      number-few 4 sub.residue.year 10 (omega (arith, fits.year)),
    ))

years_few : (area : Area) → AreaFits area → length (years_text area) ≤ years_width
unfolding years_text joined
years_few area fits =
    simp length-append
    (omega (
      arith,
      number-few 4 area.number 44 (omega (arith, fits.number)),
      number-few 4 area.opening 44 (omega (arith, fits.opening)),
      number-few 4 area.open_year 44 (omega (arith, fits.open_year_lem)),
      number-few 4 area.latest 44 (omega (arith, fits.latest)),
    ))

flag-few : (b : Bool) → length (number_text (flag b) 44) ≤ field 1
flag-few true = omega (arith, number-few 0 1 44 (omega arith))
flag-few false = omega (arith, number-few 0 0 44 (omega arith))

amounts_few : (area : Area) → AreaFits area → length (amounts_text area) ≤ field 1 + short_width + 3 * field 15
unfolding amounts_text joined
amounts_few area fits =
    simp length-append
    (omega (
      arith,
      flag-few area.withdrawn,
      number-few 4 area.returns 44 (omega (arith, fits.returns)),
      number-few 14 area.stock.0 44 (omega (arith, fits.stock)),
      number-few 14 area.received 44 (omega (arith, fits.received)),
      number-few 14 area.surrendered 44 (omega (arith, fits.surrendered)),
    ))

area-few : (area : Area) → AreaFits area → length (area_text area) ≤ carried_area_width
unfolding area_text joined start_text
area-few area fits =
    let room : area.count ≤ most_subs = fits.subs.room in
    simp length-append
    (omega (
      arith,
      years_few area fits,
      amounts_few area fits,
      number-few 1 area.count 10 (omega arith),
      texts-few SubFits sub_text carried_sub_width sub-few (subs_of area) fits.subs.each,
      length-take area.count area.subs,
    ))

pub statement-few : (holding : Holding) → Kept holding → length (statement_of holding) ≤ carried_width
unfolding statement_of joined start_text
statement-few holding kept =
    let fits = holding-fits holding kept in
    let room : holding.count ≤ most_areas = fits.room in
    simp length-append
    (omega (
      arith,
      number-few 1 holding.count 10 (omega arith),
      texts-few AreaFits area_text carried_area_width area-few (areas_of holding) fits.each,
      length-take holding.count holding.areas,
    ))
