-- Faults and a sum taken in order over the parcels of a slice: past the last what was found or added so far is the whole, and so it is after one parcel more.
use Rattle.laws.proofs.{ℕ, ◌+◌, ◌<◌, ◌≤◌, false, ◌≡◌, refl, sym, ap, ◌∙◌, List, [], ◌∷◌, add-one, arith, length, drop, get_or, drop-cons, drop_of_length-le}
use Rattle.laws.specs.{some, sum_by}
use Rattle.laws.proofs.Elements.{or_none, or_assoc}
use Rattle.land_parcels.specs.{Faults, Parcel, faults_of}
use Rattle.land_deforestation.specs.{joined, faults_among}

abbrev pub none : Faults
none = record { bare = false; hectares = false; years = false; order = false; young = false }

joined_none : (f : Faults) → joined f none ≡ f
joined_none f = λ i. record {
  bare = or_none f.bare i;
  hectares = or_none f.hectares i;
  years = or_none f.years i;
  order = or_none f.order i;
  young = or_none f.young i;
}

joined_assoc : (f g h : Faults) → joined (joined f g) h ≡ joined f (joined g h)
joined_assoc f g h = λ i. record {
  bare = or_assoc f.bare g.bare h.bare i;
  hectares = or_assoc f.hectares g.hectares h.hectares i;
  years = or_assoc f.years g.years h.years i;
  order = or_assoc f.order g.order h.order i;
  young = or_assoc f.young g.young h.young i;
}

one_more : (p : Parcel) (ps : List Parcel) → joined (faults_of p) (faults_among ps) ≡ faults_among (p ∷ ps)
unfolding faults_among some
one_more p ps = refl

none_among : faults_among [] ≡ none
unfolding faults_among some
none_among = refl

pub all_left : (ps : List Parcel) → joined none (faults_among ps) ≡ faults_among ps
all_left ps = refl

module _ (ps : List Parcel) (i : ℕ) (found whole : Faults) (h : joined found (faults_among (drop i ps)) ≡ whole) where
  pub faults_end : length ps ≤ i → found ≡ whole
  faults_end p =
      let left : faults_among (drop i ps) ≡ none = rw (drop_of_length-le ps {i = i} p) none_among in
      sym (joined_none found) ∙ ap (joined found) (sym left) ∙ h

  pub faults_more : (d : Parcel) (one : Faults) → i < length ps → one ≡ faults_of (get_or ps i d) → joined (joined found one) (faults_among (drop (i + 1) ps)) ≡ whole
  faults_more d one p e =
      let next : drop i ps ≡ get_or ps i d ∷ drop (i + 1) ps = rw (add-one, drop-cons ps i d) in
      rw e (joined_assoc found (faults_of (get_or ps i d)) (faults_among (drop (i + 1) ps)) ∙ ap (joined found) (one_more (get_or ps i d) (drop (i + 1) ps) ∙ ap faults_among (sym next)) ∙ h)

module _ {A : Type 0} (f : A → ℕ) (l : List A) (i sum whole : ℕ) (h : sum + sum_by f (drop i l) ≡ whole) where
  pub sum_end : length l ≤ i → sum ≡ whole
  unfolding sum_by
  sum_end p = omega (arith, simp (drop_of_length-le l {i = i} p) at h)

  pub sum_more : (d : A) (x : ℕ) → i < length l → x ≡ f (get_or l i d) → sum + x + sum_by f (drop (i + 1) l) ≡ whole
  unfolding sum_by
  sum_more d x p e =
      let next : drop i l ≡ get_or l i d ∷ drop (i + 1) l = rw (add-one, drop-cons l i d) in
      omega (arith, rw next at h)
