-- The laws of a line: its body, its letter, and what refuses it before its letter is looked at.
use Rattle.std.specs.Prelude.{Err}
use Rattle.laws.proofs.{ℕ, ◌-◌, ◌≤◌, ◌<◌, ◌≡◌, refl, sym, ap, ◌∙◌, Bool, true, false, List, [], ◌∷◌, ◌++◌, arith, eq-eqb, ne_eqb, lt-ltb, le-ltb, length, get_or, take, drop, take_all, length-append}
use lib.Seq.{take_at, get_or_at}
use Rattle.text.specs.{comma, line_end, holds, split}
use Rattle.refusals.specs.{Verdict, Case, ◌⇒◌, weighed, weigh_all, smallest, Refusal}
use Rattle.refusals.proofs.Smallest.{turned_stands}
use Rattle.line_entry.specs.{Parsed, parsed, parsed_by}
use Rattle.line.specs.{body_of, longest, letter_of, no_rule, rule_of, line_rule, conditions, entry_of}

module _ (line : List ℕ) (n : ℕ) (e : n ≡ length line) where
  pub body_open : (get_or line (n - 1) 0 ≡ line_end → ⊥) → take (n - 0) (drop 0 line) ≡ body_of line
  unfolding body_of
  body_open h =
      let q : n - 1 ≡ length line - 1 = omega arith in
      take_all (n - 0) line (omega arith) ∙ simp (ne_eqb (get_or line (length line - 1) 0) line_end (λ z. h (ap (λ (k : ℕ). get_or line k 0) q ∙ z)))

  pub body_ended : get_or line (n - 1) 0 ≡ line_end → take (n - 1 - 0) (drop 0 line) ≡ body_of line
  unfolding body_of
  body_ended h =
      let q : n - 1 - 0 ≡ length line - 1 = omega arith in
      let r : n - 1 ≡ length line - 1 = omega arith in
      ap (λ (k : ℕ). take k line) q ∙ simp (eq-eqb (get_or line (length line - 1) 0) line_end (ap (λ (k : ℕ). get_or line k 0) (sym r) ∙ h))

pub body_empty : (line : List ℕ) (n : ℕ) → n ≡ length line → n ≡ 0 → take (n - 0) (drop 0 line) ≡ body_of line
body_empty [] n e h = body_open [] n e (λ z. omega arith)
body_empty (b ∷ line) n e h = absurd (omega arith)

-- bytes and an end are a line whose body they are
pub ended_body : (s : List ℕ) → body_of (s ++ (line_end ∷ [])) ≡ s
unfolding body_of
ended_body s =
    let n = length (s ++ (line_end ∷ [])) - 1 in
    let e : length s ≡ n = omega (arith, length-append s (line_end ∷ [])) in
    simp (eq-eqb (get_or (s ++ (line_end ∷ [])) n 0) line_end (get_or_at s line_end [] 0 n e)) (take_at s (line_end ∷ []) n e)

pub letter_none : (s : List ℕ) → length s ≡ 0 → 0 ≡ letter_of s
unfolding letter_of
letter_none [] h = refl
letter_none (b ∷ s) h = absurd (omega arith)

pub letter_alone : (s : List ℕ) → length s ≡ 1 → get_or s 0 0 ≡ letter_of s
unfolding letter_of
letter_alone [] h = absurd (omega arith)
letter_alone (b ∷ []) h = refl
letter_alone (b ∷ c ∷ s) h = absurd (omega arith)

pub letter_parted : (s : List ℕ) → 1 < length s → get_or s 1 0 ≡ comma → get_or s 0 0 ≡ letter_of s
unfolding letter_of
letter_parted [] h e = absurd (omega arith)
letter_parted (b ∷ []) h e = absurd (omega arith)
letter_parted (b ∷ c ∷ s) h e = simp (eq-eqb c comma e)

pub letter_longer : (s : List ℕ) → 1 < length s → (get_or s 1 0 ≡ comma → ⊥) → 0 ≡ letter_of s
unfolding letter_of
letter_longer [] h e = absurd (omega arith)
letter_longer (b ∷ []) h e = absurd (omega arith)
letter_longer (b ∷ c ∷ s) h e = simp (ne_eqb c comma e)

-- the rule of a letter that is known
pub rule_known : (s : List ℕ) (l b : ℕ) (x : Parsed) → l ≡ letter_of s → l ≡ b → x ≡ parsed_by (rule_of b (split s)) → x ≡ parsed_by (line_rule s)
unfolding line_rule
rule_known s l b x e k h = h ∙ ap (λ (n : ℕ). parsed_by (rule_of n (split s))) (sym k ∙ e)

-- a letter that has no rule
pub rule_unknown : (s : List ℕ) (l : ℕ) → l ≡ letter_of s → rule_of l (split s) ≡ no_rule → Err Refusal.Form ≡ parsed_by (line_rule s)
unfolding line_rule no_rule parsed smallest weigh_all weighed
rule_unknown s l e q = sym (ap parsed_by (ap (λ (n : ℕ). rule_of n (split s)) (sym e) ∙ q))

-- a case that applies, where none before it does
first-applies : (cs : List Case) (t : Bool) → t ≡ true → smallest (t ⇒ Refusal.Form ∷ cs) ≡ Err Refusal.Form
unfolding smallest weigh_all weighed
first-applies cs t e = rw e (turned_stands Refusal.Form cs)

pub first_passed : (cs : List Case) (t : Bool) → t ≡ false → smallest (t ⇒ Refusal.Form ∷ cs) ≡ smallest cs
unfolding smallest weigh_all weighed
first_passed cs t e = rw e refl

module _ (line s : List ℕ) (e : s ≡ body_of line) where
  refused : smallest (conditions s) ≡ Err Refusal.Form → Err Refusal.Form ≡ entry_of line
  unfolding entry_of parsed
  refused q = rw (sym e) (rw q refl)

  pub too_long : longest < length s → Err Refusal.Form ≡ entry_of line
  unfolding conditions
  too_long h = refused (first-applies _ _ (lt-ltb longest (length s) h))

  pub broken : length s ≤ longest → holds line_end s ≡ true → Err Refusal.Form ≡ entry_of line
  unfolding conditions
  broken h q = refused (first_passed _ _ (le-ltb longest (length s) h) ∙ first-applies _ _ q)

  pub whole : (x : Parsed) → length s ≤ longest → holds line_end s ≡ false → x ≡ parsed_by (line_rule s) → x ≡ entry_of line
  unfolding entry_of conditions
  whole x h q r = r ∙ rw (sym e) (ap (λ (v : Verdict). parsed v (line_rule s).entry) (sym (first_passed _ _ (le-ltb longest (length s) h) ∙ first_passed _ _ q)))
