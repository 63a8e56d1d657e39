-- How short a line of an entry that prints can be: R has three fields, of which the last is a year, and W has two.
use Rattle.std.specs.Prelude.{Ok, Err}
use Rattle.laws.proofs.Elements.{or_false_right, clash}
use Rattle.laws.proofs.{ℕ, zero, suc, ◌+◌, ◌-◌, ◌*◌, ◌/◌, ◌≤◌, ◌<◌, Bool, true, false, cond, ◌≡◌, refl, ap, List, [], ◌∷◌, arith, eqb, eqb-true, not-false, length, get_or, take, length-take}
use Rattle.book_room.specs.{return_width, withdrawal_width, most_for_byte}
use Rattle.text.specs.{digits, extend, split, field_at}
use Rattle.text.proofs.Digits.{length-digits_step, digits-some}
use Rattle.text_number.specs.{Number, Unread, number_in}
use Rattle.text_value.specs.{outside}
use Rattle.text_value.proofs.Laws.{inside}
use Rattle.text_number.proofs.RoundTrip.{canonical}
use Rattle.refusals.specs.{Verdict, smallest}
use Rattle.refusals.proofs.Laws.{RuledOut, ruled_out}
use Rattle.line_entry.specs.{Act, Entry, Rule, parsed, misnamed, misformed, area_and_year, open_rule, add_rule, clear_rule, plant_rule, file_rule, withdraw_rule, Parsed}
use Rattle.line_column.specs.{column_rule}
use Rattle.line.specs.{body_of, no_rule, rule_of, line_rule, conditions, entry_of}

-- a field stands in its line behind as many commas as its place says
field_fits : (s : List ℕ) (k : ℕ) → k < length (split s) → length (field_at (split s) k) + k ≤ length s
unfolding split extend
field_fits [] zero h = omega arith
field_fits [] (suc k) h = absurd (omega arith)
field_fits (b ∷ s) k h = go (eqb b 44) (split s) (field_fits s) k h
  where
    go : (x : Bool) (t : List (List ℕ)) → ((k : ℕ) → k < length t → length (field_at t k) + k ≤ length s) → (k : ℕ)
        → k < length (cond x ([] ∷ t) (extend b t)) → length (field_at (cond x ([] ∷ t) (extend b t)) k) + k ≤ suc (length s)
    go true t ih zero h = omega arith
    go true t ih (suc k) h = omega (arith, ih k (omega arith))
    go false [] ih zero h = omega arith
    go false [] ih (suc k) h = absurd (omega arith)
    go false (f ∷ fs) ih zero h = omega (arith, ih 0 (omega arith))
    go false (f ∷ fs) ih (suc k) h = omega (arith, ih (suc k) h)

four_digits : (n : ℕ) → 1000 ≤ n → 4 ≤ length (digits n)
four_digits n h =
    omega (
      arith,
      length-digits_step n (omega arith),
      length-digits_step (n / 10) (omega arith),
      length-digits_step (n / 10 / 10) (omega arith),
      digits-some (n / 10 / 10 / 10),
    )

year_digits : (f : List ℕ) → outside 2008 2199 (number_in f) ≡ false → 4 ≤ length f
year_digits f e = go (number_in f) refl e
  where
    go : (n : Number) → number_in f ≡ n → outside 2008 2199 n ≡ false → 4 ≤ length f
    go (Ok v) q e =
        let range = inside 2008 2199 (Ok v) e in
        omega (arith, four_digits v (omega arith), ap length (canonical f v q))
    go (Err Unread.Large) q e = clash e
    go (Err Unread.Malformed) q e = clash e

-- the bytes that an accepted act prints at most
abbrev pub most_printed : Act → ℕ
most_printed (Act.Open opening) = 0
most_printed (Act.Add sub land forest year) = 0
most_printed (Act.Clear sub year) = 0
most_printed (Act.Plant sub forest year) = 0
most_printed (Act.File last) = return_width
most_printed Act.Withdraw = withdrawal_width

-- the longest is a return
pub printed_most : (act : Act) → most_printed act ≤ return_width
printed_most (Act.Open opening) = omega arith
printed_most (Act.Add sub land forest year) = omega arith
printed_most (Act.Clear sub year) = omega arith
printed_most (Act.Plant sub forest year) = omega arith
printed_most (Act.File last) = omega arith
printed_most Act.Withdraw = omega arith

-- and T prints nothing
abbrev pub most_printed_by : Entry → ℕ
most_printed_by (Entry.Column column) = 0
most_printed_by (Entry.On on) = most_printed on.act

module _ (s : List ℕ) where
  counted : (letter n : ℕ) → misformed letter n (split s) ≡ false → length (split s) ≡ n
  counted letter n e = eqb-true (length (split s)) n (not-false _ (or_false_right (misnamed letter (split s)) _ e))

  file_wide : (letter : ℕ) → RuledOut (area_and_year letter (split s)) → 6 ≤ length s
  unfolding area_and_year
  file_wide letter n = omega (arith, counted letter 3 (n 0), field_fits s 2 (omega (arith, counted letter 3 (n 0))), year_digits _ (n 4))

  withdraw_wide : RuledOut (withdraw_rule (split s)).cases → 1 ≤ length s
  unfolding withdraw_rule
  withdraw_wide n = omega (arith, field_fits s 1 (omega (arith, counted _ 2 (n 0))))

  rule_wide : (letter : ℕ) → RuledOut (rule_of letter (split s)).cases → most_printed_by (rule_of letter (split s)).entry ≤ most_for_byte * (length s + 1)
  unfolding rule_of column_rule open_rule add_rule clear_rule plant_rule file_rule no_rule withdraw_rule
  rule_wide letter n = go (eqb letter 84) (eqb letter 65) (eqb letter 83) (eqb letter 67) (eqb letter 80) (eqb letter 82) (eqb letter 87) n
    where
      ruled : Bool → Bool → Bool → Bool → Bool → Bool → Bool → Rule
      ruled t a b c p r w =
          cond t (column_rule (split s))
          (cond a (open_rule (split s))
          (cond b (add_rule (split s))
          (cond c (clear_rule (split s))
          (cond p (plant_rule (split s))
          (cond r (file_rule (split s))
          (cond w (withdraw_rule (split s))
          no_rule))))))

      go : (t a b c p r w : Bool) → RuledOut (ruled t a b c p r w).cases → most_printed_by (ruled t a b c p r w).entry ≤ most_for_byte * (length s + 1)
      go true a b c p r w n = omega arith
      go false true b c p r w n = omega arith
      go false false true c p r w n = omega arith
      go false false false true p r w n = omega arith
      go false false false false true r w n = omega arith
      go false false false false false true w n = omega (arith, file_wide _ n)
      go false false false false false false true n = omega (arith, withdraw_wide n)
      go false false false false false false false n = clash (n 0)

body_within : (line : List ℕ) → length (body_of line) ≤ length line
unfolding body_of
body_within line = go (eqb (get_or line (length line - 1) 0) 10)
  where
    go : (x : Bool) → length (cond x (take (length line - 1) line) line) ≤ length line
    go true = omega (arith, length-take (length line - 1) line)
    go false = omega arith

-- what an entry prints is at most 11 bytes for each byte of its line and its end
pub entry_wide : (line : List ℕ) (entry : Entry) → entry_of line ≡ Ok entry → most_printed_by entry ≤ most_for_byte * (length line + 1)
unfolding entry_of parsed conditions line_rule
entry_wide line entry e = go (smallest (conditions (body_of line))) refl e
  where
    rule : Entry
    rule = (line_rule (body_of line)).entry

    same : ◌≡◌ {A = Parsed} (Ok rule) (Ok entry) → rule ≡ entry
    same q = cc

    go : (v : Verdict) → smallest (conditions (body_of line)) ≡ v → parsed v rule ≡ Ok entry → most_printed_by entry ≤ most_for_byte * (length line + 1)
    go (Ok _) q e =
        let n = ruled_out (conditions (body_of line)) q in
        omega (arith, ap most_printed_by (same e), rule_wide (body_of line) _ (λ i. n (suc (suc i))), body_within line)
    go (Err r) q e = let z : ◌≡◌ {A = ℕ} 0 1 = cc in absurd (omega arith)
