-- What the writer writes is read as what it was: each line's fields stand one after the other, and each is read where it stands.
use Rattle.laws.proofs.{ℕ, ◌+◌, ◌≤◌, ◌<◌, ◌≡◌, refl, ap, Bool, true, false, List, [], ◌∷◌, arith, eqb, length, take}
use Rattle.holding.specs.{Residue, Sub, Area, Holding, most_areas, most_subs, areas_of, subs_of, empty_sub, empty_area}
use Rattle.statement_format.specs.{start_text, number_text, type_text, texts, flag, residue_text, sub_text, years_text, amounts_text, area_text, statement_of}
use Rattle.statement_format.proofs.Residues.{sub_pieces, sub_text_lem}
use Rattle.statement_parse.specs.{SubRead, AmountsRead, AreaRead, most8, most16, most32, most_read, residue_at, sub_line_at, subs_from, subs_within, years_at, amounts_at, area_line_at, area_line_within, areas_from_within, areas_at, areas_within, holding_at, holding_within}
use Rattle.theorem_keeping.specs.{Kept}
use Rattle.theorem_keeping.proofs.Register.{Register}
use Rattle.theorem_keeping.proofs.Areas.{area_number, sub_number}
use Rattle.statement_places.proofs.Places.{Stands, Pieces, piece_first, piece_rest, piece_last}
use Rattle.statement_places.proofs.Values.{number_here, type_here}
use Rattle.statement_places.proofs.Starts.{start_here, line_here}
use Rattle.theorem_round_trips.proofs.Items.{register_here}
use Rattle.theorem_round_trips.proofs.Fitting.{SubFits, AreaFits, holding-fits}

module _ (s : List ℕ) (at last : ℕ) where
  residue_here : (residue : Residue) → residue.age ≤ most16 → residue.year ≤ most16 → 0 < at → Stands s at (residue_text residue 10) last
      → residue_at s at ≡ record { residue = residue; next = last }
  unfolding residue_at residue_text
  residue_here residue age year started stands =
      let p0 : Pieces s at (type_text residue.forest 44 ∷ number_text residue.age 44 ∷ number_text residue.year 10 ∷ []) last = record { all = stands } in
      let p1 = piece_rest p0 in
      let p2 = piece_rest p1 in
      let e0 = type_here started (omega arith) (piece_first p0) in
      let e1 = number_here most16 (omega arith) (omega arith) age (omega arith) (piece_first p1) in
      let e2 = number_here most16 (omega arith) (omega arith) year (omega arith) (piece_first p2) in
      simp (e0, e1, e2) (ap (λ (p : ℕ). record { residue = residue; next = p }) (piece_last (piece_rest p2)))

module _ (s : List ℕ) (at last : ℕ) where
  sub_here : (sub : Sub) → SubFits sub → 0 < at → Stands s at (sub_text sub) last → sub_line_at s at ≡ record { sub = sub; next = last }
  unfolding sub_line_at
  sub_here sub fits started stands =
      let p0 : Pieces s at (sub_pieces sub (residue_text sub.residue 10)) last = record { all = rw sub_text_lem at stands } in
      let p1 = piece_rest p0 in
      let p2 = piece_rest p1 in
      let p3 = piece_rest p2 in
      let p4 = piece_rest p3 in
      let p5 = piece_rest p4 in
      let e0 = line_here s at 83 started (piece_first p0) in
      let e1 = number_here most8 (omega arith) (omega arith) fits.number (omega arith) (piece_first p1) in
      let e2 = number_here most32 (omega arith) (omega arith) fits.tenths (omega arith) (piece_first p2) in
      let e3 = type_here (omega arith) (omega arith) (piece_first p3) in
      let e4 = number_here most16 (omega arith) (omega arith) fits.planted (omega arith) (piece_first p4) in
      let e5 = residue_here s _ _ sub.residue fits.age fits.year (omega arith) (piece_first p5) in
      simp (e0, e1, e2, e3, e4, e5) (ap (λ (p : ℕ). record { sub = sub; next = p }) (piece_last (piece_rest p5)))

subs_here : (s : List ℕ) (at last count : ℕ) (subs : List Sub) → Register sub_number empty_sub SubFits most_subs count subs → 0 < at
    → Stands s at (texts sub_text (take count subs)) last → subs_within most_subs s at count ≡ (subs, last)
unfolding subs_within subs_from
subs_here s at last count subs register started stands =
    register_here (λ p. (sub_line_at s p).sub) (λ p. (sub_line_at s p).next) s sub_text SubFits
    (λ p q sub fits h st. let e = sub_here s p q sub fits h st in (ap (λ (r : SubRead). r.sub) e, ap (λ (r : SubRead). r.next) e))
    sub_number empty_sub most_subs count subs register at last started stands

flag-read : (b : Bool) → eqb (flag b) 1 ≡ b
flag-read true = refl
flag-read false = refl

flag_small : (b : Bool) → flag b ≤ 1
flag_small true = omega arith
flag_small false = omega arith

module _ (s : List ℕ) (at last : ℕ) (area : Area) (fits : AreaFits area) (started : 0 < at) where
  years_here : Stands s at (years_text area) last
      → years_at s at ≡ record { number = area.number; opening = area.opening; open_year = area.open_year; latest = area.latest; next = last }
  unfolding years_at years_text
  years_here stands =
      let p0 : Pieces s at
      (number_text area.number 44 ∷ number_text area.opening 44 ∷ number_text area.open_year 44 ∷ number_text area.latest 44 ∷ [])
      last = record { all = stands } in
      let p1 = piece_rest p0 in
      let p2 = piece_rest p1 in
      let p3 = piece_rest p2 in
      let e0 = number_here most16 started (omega arith) fits.number (omega arith) (piece_first p0) in
      let e1 = number_here most16 (omega arith) (omega arith) fits.opening (omega arith) (piece_first p1) in
      let e2 = number_here most16 (omega arith) (omega arith) fits.open_year_lem (omega arith) (piece_first p2) in
      let e3 = number_here most16 (omega arith) (omega arith) fits.latest (omega arith) (piece_first p3) in
      simp (e0, e1, e2, e3)
      (ap (λ (p : ℕ). record { number = area.number; opening = area.opening; open_year = area.open_year; latest = area.latest; next = p })
      (piece_last (piece_rest p3)))

  abbrev amounts_to : ℕ → AmountsRead
  amounts_to next = record {
    withdrawn = area.withdrawn;
    returns = area.returns;
    stock = area.stock;
    received = area.received;
    surrendered = area.surrendered;
    next = next;
  }

  amounts_here : Stands s at (amounts_text area) last → amounts_at s at ≡ amounts_to last
  unfolding amounts_at amounts_text
  amounts_here stands =
      let p0 : Pieces s at
      (number_text (flag area.withdrawn) 44 ∷ number_text area.returns 44 ∷ number_text area.stock.0 44 ∷ number_text area.received 44
      ∷ number_text area.surrendered 44 ∷ [])
      last = record { all = stands } in
      let p1 = piece_rest p0 in
      let p2 = piece_rest p1 in
      let p3 = piece_rest p2 in
      let p4 = piece_rest p3 in
      let e0 = number_here 1 started (omega arith) (flag_small area.withdrawn) (omega arith) (piece_first p0) in
      let e1 = number_here most16 (omega arith) (omega arith) fits.returns (omega arith) (piece_first p1) in
      let e2 = number_here most_read (omega arith) (omega arith) fits.stock (omega arith) (piece_first p2) in
      let e3 = number_here most_read (omega arith) (omega arith) fits.received (omega arith) (piece_first p3) in
      let e4 = number_here most_read (omega arith) (omega arith) fits.surrendered (omega arith) (piece_first p4) in
      simp (e0, e1, e2, e3, e4, flag-read) (ap amounts_to (piece_last (piece_rest p4)))

module _ (s : List ℕ) (at last : ℕ) where
  area_here : (area : Area) → AreaFits area → 0 < at → Stands s at (area_text area) last → area_line_at s at ≡ record { area = area; next = last }
  unfolding area_line_within area_text
  area_here area fits started stands =
      let p0 : Pieces s at (start_text 65 ∷ years_text area ∷ amounts_text area ∷ number_text area.count 10 ∷ texts sub_text (subs_of area) ∷ []) last =
      record { all = stands } in
      let p1 = piece_rest p0 in
      let p2 = piece_rest p1 in
      let p3 = piece_rest p2 in
      let p4 = piece_rest p3 in
      let e0 = line_here s at 65 started (piece_first p0) in
      let e1 = years_here s _ _ area fits (omega arith) (piece_first p1) in
      let e2 = amounts_here s _ _ area fits (omega arith) (piece_first p2) in
      let e3 = number_here most_subs (omega arith) (omega arith) fits.subs.room (omega arith) (piece_first p3) in
      let e4 = subs_here s _ _ area.count area.subs fits.subs (omega arith) (piece_first p4) in
      simp (e0, e1, e2, e3, e4) (ap (λ (p : ℕ). record { area = area; next = p }) (piece_last (piece_rest p4)))

areas_here : (s : List ℕ) (at last count : ℕ) (areas : List Area) → Register area_number empty_area AreaFits most_areas count areas → 0 < at
    → Stands s at (texts area_text (take count areas)) last → areas_at s at count ≡ record { areas = areas; next = last }
unfolding areas_within areas_from_within
areas_here s at last count areas register started stands =
    ap (λ (read : List Area × ℕ). record { areas = read.0; next = read.1 })
    (register_here (λ p. (area_line_at s p).area) (λ p. (area_line_at s p).next) s area_text AreaFits
    (λ p q area fits h st. let e = area_here s p q area fits h st in (ap (λ (r : AreaRead). r.area) e, ap (λ (r : AreaRead). r.next) e))
    area_number empty_area most_areas count areas register at last started stands)

start-some : (at letter : ℕ) → 0 < at + length (start_text letter)
unfolding start_text
start-some at letter = omega arith

pub holding_here : (s : List ℕ) (last : ℕ) (holding : Holding) → Kept holding → Stands s 0 (statement_of holding) last
    → holding_at s ≡ record { holding = holding; next = last }
unfolding holding_within statement_of
holding_here s last holding kept stands =
    let register = holding-fits holding kept in
    let p0 : Pieces s 0 (start_text 72 ∷ number_text holding.count 10 ∷ texts area_text (areas_of holding) ∷ []) last = record { all = stands } in
    let p1 = piece_rest p0 in
    let p2 = piece_rest p1 in
    let e0 = start_here s 0 72 (piece_first p0) in
    let e1 = number_here most_areas (start-some 0 72) (omega arith) register.room (omega arith) (piece_first p1) in
    let e2 = areas_here s _ _ holding.count holding.areas register (omega (arith, start-some 0 72)) (piece_first p2) in
    simp (e0, e1, e2) (ap (λ (p : ℕ). record { holding = holding; next = p }) (piece_last (piece_rest p2)))
