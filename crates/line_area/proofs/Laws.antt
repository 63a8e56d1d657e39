-- An area and a year that were read make the entry, whichever it is, or the refusal.
use Rattle.std.specs.Prelude.{Ok, Err}
use Rattle.laws.proofs.{ℕ, ◌≡◌, refl, sym, ap, ◌∙◌, List, lit≤}
use Rattle.text_value.specs.{value_of}
use Rattle.refusals.specs.{Refusal, smallest}
use Rattle.refusals.proofs.Laws.{ruled_out}
use Rattle.line_entry.specs.{Act, Entry, on, number_at, parsed, area_and_year}
use Rattle.line_entry.proofs.Laws.{turned, taken, value_found}
use Rattle.line_area.specs.{AreaAndYear, area_year}

module _ (letter : ℕ) (fs : List (List ℕ)) (read : AreaAndYear) (e : read ≡ area_year letter fs) where
  verdict : read.verdict ≡ smallest (area_and_year letter fs)
  unfolding area_year
  verdict = ap (λ (a : AreaAndYear). a.verdict) e

  pub year_turned : (entry : Entry) (r : Refusal) → read.verdict ≡ Err r → Err r ≡ parsed (smallest (area_and_year letter fs)) entry
  year_turned entry r q = turned _ _ entry r verdict q

  pub year_taken : (make : ℕ → Act) → read.verdict ≡ Ok tt
      → Ok (Entry.On (on read.area (make read.year))) ≡ parsed (smallest (area_and_year letter fs)) (Entry.On (on (value_of (number_at fs 1)) (make (value_of (number_at fs 2)))))
  unfolding area_year area_and_year
  year_taken make clear =
      let none = ruled_out (area_and_year letter fs) (sym verdict ∙ clear) in
      let area : read.area ≡ value_of (number_at fs 1) =
      value_found 1 999 65535 _ _ _ (ap (λ (a : AreaAndYear). a.area) e) refl (lit≤ tt) (none 3) in
      let year : read.year ≡ value_of (number_at fs 2) =
      value_found 2008 2199 65535 _ _ _ (ap (λ (a : AreaAndYear). a.year) e) refl (lit≤ tt) (none 4) in
      taken _ _ _ _ verdict clear (ap (λ (n : ℕ). Entry.On (on n (make read.year))) area ∙ ap (λ (n : ℕ). Entry.On (on (value_of (number_at fs 1)) (make n))) year)
