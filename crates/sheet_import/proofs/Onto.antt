-- What an import onto a statement answers and writes, by what the statement was read as and what the sheet came to.
use Rattle.std.specs.Prelude.{Ok, Err}
use Rattle.laws.proofs.{ℕ, ◌*◌, ◌≤◌, ◌<◌, ◌≡◌, refl, sym, ap, ◌∙◌, Bool, true, false, ◌&&◌, List, ◌++◌, append_assoc, append-nil, ◌⊎◌, inl, inr, ⊎_elim, arith, ltb, ltb-true, ltb-false, length, take, min}
use Rattle.laws.proofs.Order.{below_or_not}
use Rattle.refusals.specs.{Refusal, Verdict, and_then}
use Rattle.holding.specs.{Holding, most_areas, areas_of}
use Rattle.statement_format.specs.{start_text, number_text, joined, texts, area_text, statement_of, area_width, statement_width}
use Rattle.statement_field.specs.{Put}
use Rattle.statement_field.proofs.Puts.{put_then, put_as, put_within}
use Rattle.statement_field.proofs.Texts.{put_end, put_out}
use Rattle.statement.specs.{Read, read_of}
use Rattle.sheet_import.specs.{Imported, import_onto, first_text, first_width, onto_verdict, onto_bytes}

module _ (own statement sheet : List ℕ) where
  pub onto_turned : (refusal : Refusal) → (read_of statement).verdict ≡ Err refusal → onto_verdict own statement sheet ≡ Err refusal
  unfolding onto_verdict
  onto_turned refusal e = ap (λ (v : Verdict). and_then v (import_onto own (read_of statement).holding sheet).verdict) e

  module _ (given : Holding) (r : read_of statement ≡ record { verdict = (Ok tt); holding = given }) (imported : Imported)
      (i : imported ≡ import_onto own given sheet) where
    pub onto_verdict_lem : onto_verdict own statement sheet ≡ imported.verdict
    unfolding onto_verdict
    onto_verdict_lem =
        ap (λ (x : Read). and_then x.verdict (import_onto own x.holding sheet).verdict) r ∙ ap (λ (x : Imported). x.verdict) (sym i)

    pub onto_bytes_lem : statement_of imported.holding ≡ onto_bytes own statement sheet
    unfolding onto_bytes
    onto_bytes_lem = ap (λ (x : Imported). statement_of x.holding) i ∙ ap (λ (x : Read). statement_of (import_onto own x.holding sheet).holding) (sym r)

-- ---- the new statement, an area a turn

-- after the last turn all that stand are put
past : (i count : ℕ) → min count most_areas ≤ i → (most_areas ≤ i) ⊎ (count ≤ i)
past i count h = ⊎_elim (λ p. inl (omega arith)) (λ q. inr (omega arith)) (below_or_not most_areas count)

module _ (holding : Holding) (long : length holding.areas ≡ most_areas) where
  whole : {l m o : List ℕ} {at p next i : ℕ} → Put first_width l at (first_text holding.count) m p → Put (area_width * i) m p (texts area_text (areas_of holding)) o next
      → i ≤ most_areas → Put statement_width l at (statement_of holding) o next
  unfolding statement_of joined
  whole first areas h =
      put_as
      (append_assoc (start_text 72) (number_text holding.count 10) (texts area_text (areas_of holding))
      ∙ ap (λ (t : List ℕ). start_text 72 ++ (number_text holding.count 10 ++ t)) (sym (append-nil (texts area_text (areas_of holding)))))
      (put_within (omega arith) (put_then first areas))

  pub all_put : {l m o : List ℕ} {at p next i : ℕ} → Put first_width l at (first_text holding.count) m p
      → Put (area_width * i) m p (texts area_text (take i (areas_of holding))) o next → i ≤ most_areas → min holding.count most_areas ≤ i
      → Put statement_width l at (statement_of holding) o next
  all_put {i = i} first areas h e =
      ⊎_elim
      (λ out. whole first (put_out area_text holding.areas holding.count i area_width areas (omega (arith, long))) h)
      (λ end. whole first (put_end area_text holding.areas holding.count i area_width areas end) h)
      (past i holding.count e)
