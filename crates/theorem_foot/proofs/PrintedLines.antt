-- What is printed for a line of a book is one line of the listing, and its fields are known: numbers, commas and the minus sign hold no line's end, and
-- numbers and the minus sign hold no comma.
use Rattle.laws.proofs.{ℕ, ◌≤◌, ◌≡◌, refl, sym, ap, ◌∙◌, Bool, true, false, cond, List, [], ◌∷◌, ◌++◌, append_assoc, append-nil, arith, ne_eqb, eqb}
use Rattle.text.specs.{comma, line_end, extend, digits, split, Plain}
use Rattle.text.proofs.Fields.{split_plain, split-front}
use Rattle.refusals.specs.{Refusal, number_of}
use Rattle.units.specs.{Change}
use Rattle.step_outcome.specs.{Report, Filed}
use Rattle.statement_format.specs.{start_text, number_text, joined}
use Rattle.book_print.specs.{loss_text, change_text, report_text, pair_text, refusal_text, foot_text}
use Rattle.book_listing.specs.{lines_of}
use Rattle.statement_places.proofs.Widths.{High, high_digits}

-- ---- bytes in front of a line are of that line

record Within (bytes : List ℕ) : Type 0 where
  before : (rest line : List ℕ) (lines : List (List ℕ)) → lines_of rest ≡ line ∷ lines → lines_of (bytes ++ rest) ≡ (bytes ++ line) ∷ lines

within_then : {xs ys : List ℕ} → Within xs → Within ys → Within (xs ++ ys)
within_then {xs} {ys} p q = record {
  before = λ rest line lines e.
      ap lines_of (append_assoc xs ys rest) ∙ p.before (ys ++ rest) (ys ++ line) lines (q.before rest line lines e)
      ∙ ap (λ (l : List ℕ). l ∷ lines) (sym (append_assoc xs ys line));
}

within_none : Within []
within_none = record { before = λ rest line lines e. e }

within_byte : (b : ℕ) → eqb b line_end ≡ false → Within (b ∷ [])
unfolding lines_of extend
within_byte b e = record { before = λ rest line lines q. rw (e, q) }

within_high : (bytes : List ℕ) → High bytes → Within bytes
unfolding High
within_high [] high = within_none
within_high (b ∷ bytes) high =
    within_then (within_byte b (ne_eqb b 10 (λ e. let h : 48 ≤ b = high.0 in omega arith))) (within_high bytes high.1)

-- ---- a field

record Field (field : List ℕ) : Type 0 where
  within : Within field
  plain : Plain field

plain_high : (bytes : List ℕ) → High bytes → Plain bytes
unfolding High Plain
plain_high [] high = tt
plain_high (b ∷ bytes) high = ((λ e. let h : 48 ≤ b = high.0 in omega arith), plain_high bytes high.1)

number-field : (n : ℕ) → Field (digits n)
number-field n = record { within = within_high (digits n) (high_digits n); plain = plain_high (digits n) (high_digits n) }

minus_field : (n : ℕ) → Field (45 ∷ digits n)
unfolding Plain
minus_field n =
    let number = number-field n in
    record { within = within_then (within_byte 45 refl) number.within; plain = ((λ e. omega arith), number.plain) }

-- the field of a change; that of 0 t has no sign
unfoldable pub change_field : Change → List ℕ
change_field (Change.Gain tonnes) = digits tonnes
change_field (Change.Loss tonnes) = cond (eqb tonnes 0) (digits 0) (45 ∷ digits tonnes)

change-field : (change : Change) → Field (change_field change)
unfolding change_field
change-field (Change.Gain tonnes) = number-field tonnes
change-field (Change.Loss tonnes) = go (eqb tonnes 0)
  where
    go : (t : Bool) → Field (cond t (digits 0) (45 ∷ digits tonnes))
    go true = number-field 0
    go false = minus_field tonnes

change_text_lem : (change : Change) → change_text change ≡ change_field change ++ (comma ∷ [])
unfolding change_text loss_text change_field number_text
change_text_lem (Change.Gain tonnes) = refl
change_text_lem (Change.Loss tonnes) = go (eqb tonnes 0)
  where
    go : (t : Bool) → cond t (digits 0 ++ (44 ∷ [])) (45 ∷ (digits tonnes ++ (44 ∷ []))) ≡ cond t (digits 0) (45 ∷ digits tonnes) ++ (44 ∷ [])
    go true = refl
    go false = refl

-- ---- the end of a line, with its fields, and a line that a letter begins

record Ends (fields : List (List ℕ)) (text : List ℕ) : Type 0 where
  body : List ℕ
  whole : text ≡ body ++ (line_end ∷ [])
  within : Within body
  parts : split body ≡ fields

pub record LineOf (letter : ℕ) (fields : List (List ℕ)) (text : List ℕ) : Type 0 where
  pub more : List ℕ
  pub whole : text ≡ letter ∷ more ++ (line_end ∷ [])
  -- it is the first line of what it stands in front of
  pub first : (rest : List ℕ) → lines_of (text ++ rest) ≡ (letter ∷ more) ∷ lines_of rest
  pub parts : split (letter ∷ more) ≡ (letter ∷ []) ∷ fields

ends_number : (n : ℕ) → Ends (digits n ∷ []) (number_text n line_end ++ [])
unfolding number_text
ends_number n =
    let number = number-field n in
    record { body = digits n; whole = append-nil _; within = number.within; parts = split_plain (digits n) number.plain }

ends_field : {field text rest : List ℕ} {fields : List (List ℕ)} → text ≡ field ++ (comma ∷ []) → Field field → Ends fields rest → Ends (field ∷ fields) (text ++ rest)
ends_field {field} {text} {rest} {fields} e f q = record {
  body = field ++ comma ∷ q.body;
  whole =
      ap (λ (l : List ℕ). l ++ rest) e ∙ append_assoc field (comma ∷ []) rest ∙ ap (λ (l : List ℕ). field ++ comma ∷ l) q.whole
      ∙ sym (append_assoc field (comma ∷ q.body) (line_end ∷ []));
  within = within_then f.within (within_then (within_byte comma refl) q.within);
  parts = split-front field q.body f.plain ∙ ap (λ (l : List (List ℕ)). field ∷ l) q.parts;
}

ends_then : (n : ℕ) {rest : List ℕ} {fields : List (List ℕ)} → Ends fields rest → Ends (digits n ∷ fields) (number_text n comma ++ rest)
unfolding number_text
ends_then n q = ends_field refl (number-field n) q

first_line : (text body rest : List ℕ) → text ≡ body ++ (line_end ∷ []) → Within body → lines_of (text ++ rest) ≡ body ∷ lines_of rest
unfolding lines_of
first_line text body rest whole within =
    ap (λ (l : List ℕ). lines_of (l ++ rest)) whole ∙ ap lines_of (append_assoc body (line_end ∷ []) rest)
    ∙ within.before (line_end ∷ rest) [] (lines_of rest) refl
    ∙ ap (λ (l : List ℕ). l ∷ lines_of rest) (append-nil body)

line_of : (letter : ℕ) {fields : List (List ℕ)} {text : List ℕ} → eqb letter line_end ≡ false → eqb letter comma ≡ false → Ends fields text
    → LineOf letter fields (start_text letter ++ text)
unfolding start_text split extend
line_of letter {fields} {text} e c q =
    let whole : start_text letter ++ text ≡ letter ∷ comma ∷ q.body ++ (line_end ∷ []) = ap (λ (l : List ℕ). letter ∷ comma ∷ l) q.whole in
    let within = within_then (within_byte letter e) (within_then (within_byte comma refl) q.within) in
    record {
      more = comma ∷ q.body;
      whole = whole;
      first = λ rest. first_line _ (letter ∷ comma ∷ q.body) rest whole within;
      parts = rw c (ap (λ (l : List (List ℕ)). (letter ∷ []) ∷ l) q.parts);
    }

-- ---- the lines that are printed

-- "R: area, first and last year, change, received, due, balance"
abbrev pub return_fields : Filed → List (List ℕ)
return_fields filed =
    digits filed.area ∷ digits filed.first ∷ digits filed.last ∷ change_field filed.change ∷ digits filed.received ∷ digits filed.due
    ∷ digits filed.balance ∷ []

-- two numbers
abbrev pub pair_fields : ℕ → ℕ → List (List ℕ)
pair_fields a b = digits a ∷ digits b ∷ []

pub return_line : (filed : Filed) → LineOf 82 (return_fields filed) (report_text (Report.Return filed))
unfolding report_text joined
return_line filed =
    line_of 82 refl refl
    (ends_then filed.area
    (ends_then filed.first
    (ends_then filed.last
    (ends_field (change_text_lem filed.change) (change-field filed.change)
    (ends_then filed.received
    (ends_then filed.due
    (ends_number filed.balance)))))))

pub withdrawal_line : (area due : ℕ) → LineOf 87 (pair_fields area due) (report_text (Report.Withdrawal area due))
unfolding report_text joined
withdrawal_line area due = line_of 87 refl refl (ends_then area (ends_number due))

pub pair_line : (letter a b : ℕ) → eqb letter line_end ≡ false → eqb letter comma ≡ false → LineOf letter (pair_fields a b) (pair_text letter a b)
unfolding pair_text joined
pair_line letter a b e c = line_of letter e c (ends_then a (ends_number b))

pub foot_line : (received surrendered balance : ℕ) → LineOf 70 (digits received ∷ pair_fields surrendered balance) (foot_text received surrendered balance)
unfolding foot_text joined
foot_line received surrendered balance = line_of 70 refl refl (ends_then received (ends_then surrendered (ends_number balance)))

pub refusal_line : (number : ℕ) (refusal : Refusal) → LineOf 88 (pair_fields number (number_of refusal)) (refusal_text number refusal)
unfolding refusal_text
refusal_line number refusal = pair_line 88 number (number_of refusal) refl refl
