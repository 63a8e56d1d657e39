-- The statement of a holding, taken apart at an area: the lines before it, the area's own line, its sub-areas' and the rest. Every text before it
-- ends with byte 10, so the area's line begins a line.
use Rattle.laws.proofs.{ℕ, suc, ◌<◌, ◌≡◌, refl, sym, ap, subst, ◌∙◌, List, [], ◌∷◌, ◌++◌, append-nil, append_assoc, arith, length, take, drop, get_or, length-take, get_or-take}
use lib.Seq.{split_at}
use Rattle.text.specs.{digits}
use Rattle.holding.specs.{Residue, Sub, Area, Holding, areas_of, subs_of, empty_area}
use Rattle.statement_format.specs.{start_text, number_text, type_text, joined, texts, residue_text, sub_text, flag, years_text, amounts_text, area_text, statement_of}
use Rattle.statement_format.proofs.Residues.{sub_text_lem}
use Rattle.statement_format.proofs.Texts.{texts-append}
use Rattle.theorem_demand_three.specs.{area_line}

-- bytes that end with a line's end
pub record EndsLine (bytes : List ℕ) : Type 0 where
  pub front : List ℕ
  pub ended : bytes ≡ front ++ (10 ∷ [])

ends_behind : (front : List ℕ) {bytes : List ℕ} → EndsLine bytes → EndsLine (front ++ bytes)
ends_behind front e = record {
  front = front ++ e.front;
  ended = ap (λ (l : List ℕ). front ++ l) e.ended ∙ sym (append_assoc front e.front (10 ∷ []));
}

ends_last : {bytes : List ℕ} → EndsLine bytes → EndsLine (bytes ++ [])
ends_last {bytes} e = subst EndsLine (sym (append-nil bytes)) e

number_ends : (n : ℕ) → EndsLine (number_text n 10)
unfolding number_text
number_ends n = record { front = digits n; ended = refl }

texts_end : {A : Type 0} (text : A → List ℕ) → ((a : A) → EndsLine (text a)) → (front : List ℕ) (l : List A) → EndsLine front
    → EndsLine (front ++ texts text l)
unfolding texts
texts_end text each front [] e = ends_last e
texts_end text each front (a ∷ l) e =
    subst EndsLine (append_assoc front (text a) (texts text l)) (texts_end text each (front ++ text a) l (ends_behind front (each a)))

-- pieces of which the last, or the rest behind some of them, ends with a line's end
pieces_end : (pieces rest : List (List ℕ)) → EndsLine (joined rest) → EndsLine (joined (pieces ++ rest))
unfolding joined
pieces_end [] rest e = e
pieces_end (piece ∷ pieces) rest e = ends_behind piece (pieces_end pieces rest e)

last_ends : (pieces : List (List ℕ)) (last : List ℕ) → EndsLine last → EndsLine (joined (pieces ++ (last ∷ [])))
unfolding joined
last_ends pieces last e = pieces_end pieces (last ∷ []) (ends_last e)

residue_ends : (residue : Residue) → EndsLine (residue_text residue 10)
unfolding residue_text
residue_ends residue = last_ends (type_text residue.forest 44 ∷ number_text residue.age 44 ∷ []) _ (number_ends residue.year)

sub_ends : (sub : Sub) → EndsLine (sub_text sub)
sub_ends sub =
    rw sub_text_lem
    (last_ends
    (start_text 83 ∷ number_text sub.number 44 ∷ number_text sub.tenths.0 44 ∷ type_text sub.forest 44 ∷ number_text sub.planted 44 ∷ []) _
    (residue_ends sub.residue))

count_ends : (area : Area) → EndsLine (joined (number_text area.count 10 ∷ texts sub_text (subs_of area) ∷ []))
unfolding joined
count_ends area =
    let count = number_text area.count 10 in
    subst EndsLine (ap (λ (l : List ℕ). count ++ l) (sym (append-nil (texts sub_text (subs_of area)))))
    (texts_end sub_text sub_ends count (subs_of area) (number_ends area.count))

area_ends : (area : Area) → EndsLine (area_text area)
unfolding area_text
area_ends area = pieces_end (start_text 65 ∷ years_text area ∷ amounts_text area ∷ []) _ (count_ends area)

-- the line of an area
abbrev pub line_of : Area → List ℕ
line_of area =
    area_line area.number area.opening area.open_year area.latest (flag area.withdrawn) area.returns area.stock.0 area.received
    area.surrendered area.count

line_first : (area : Area) → area_text area ≡ line_of area ++ texts sub_text (subs_of area)
unfolding area_text years_text amounts_text area_line joined
line_first area = simp (append_assoc, append-nil)

-- an area's line in a statement, behind a line's end
pub record LineStands (statement : List ℕ) (area : Area) : Type 0 where
  pub before : List ℕ
  pub after : List ℕ
  pub stands : statement ≡ before ++ (10 ∷ (line_of area ++ after))

module _ (holding : Holding) (i : ℕ) (standing : i < holding.count) (inside : i < length holding.areas) where
  area : Area
  area = get_or holding.areas i empty_area

  earlier : List Area
  earlier = take i (areas_of holding)

  later : List Area
  later = drop (suc i) (areas_of holding)

  areas-split : areas_of holding ≡ earlier ++ (area ∷ later)
  unfolding area earlier later
  areas-split =
      split_at (areas_of holding) i empty_area (omega (arith, length-take holding.count holding.areas))
      ∙ ap (λ (a : Area). take i (areas_of holding) ++ (a ∷ drop (suc i) (areas_of holding))) (get_or-take holding.count holding.areas i empty_area standing)

  front : List ℕ
  front = start_text 72 ++ (number_text holding.count 10 ++ texts area_text earlier)

  front_ends : EndsLine front
  unfolding front
  front_ends = ends_behind (start_text 72) (texts_end area_text area_ends (number_text holding.count 10) earlier (number_ends holding.count))

  statement-split : statement_of holding ≡ front ++ (area_text area ++ texts area_text later)
  unfolding statement_of joined front texts
  statement-split =
      let start = start_text 72 in
      let count = number_text holding.count 10 in
      ap (λ (l : List ℕ). start ++ (count ++ (l ++ []))) (ap (texts area_text) areas-split ∙ texts-append area_text earlier (area ∷ later))
      ∙ simp (append_assoc, append-nil)

  pub line_stands : LineStands (statement_of holding) (get_or holding.areas i empty_area)
  unfolding area
  line_stands =
      let subs = texts sub_text (subs_of area) in
      let rest = texts area_text later in
      record {
        before = front_ends.front;
        after = subs ++ rest;
        stands =
            statement-split ∙ ap (λ (l : List ℕ). front ++ (l ++ rest)) (line_first area)
            ∙ ap (λ (l : List ℕ). l ++ ((line_of area ++ subs) ++ rest)) front_ends.ended
            ∙ append_assoc front_ends.front (10 ∷ []) ((line_of area ++ subs) ++ rest)
            ∙ ap (λ (l : List ℕ). front_ends.front ++ (10 ∷ l)) (append_assoc (line_of area) subs rest);
      }
