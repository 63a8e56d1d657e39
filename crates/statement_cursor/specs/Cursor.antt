-- What stands at a place of a list of bytes, and the place after it. The place 0 is nowhere. The reader's own:
-- `accepts_just_when` (theorem_round_trips) says what it comes to by `carried` and `statement_of` alone.
use Rattle.laws.specs.{ℕ, cond, List, eqb, leb, ltb, length, take, drop, get_or}
use Rattle.std.specs.Prelude.{◌<◌, ◌+◌, ◌≤◌, ◌≡◌, ◌&&◌, Some, None, Option, Ok, Err}
use Rattle.text.specs.{comma, width_to}
use Rattle.text_number.specs.{Number, Unread, more, number_in}
use Rattle.forest.specs.{named, Forest}
use Rattle.statement_cursor.specs.declared.NumberField.{NumberField}
use Rattle.statement_cursor.specs.declared.TypeField.{TypeField}

-- a field is what stands before the first byte `end`, which must be there; `read` says what it is, by the place after it and its bytes
unfoldable pub field_of : {A : Type 0} → A → (ℕ → List ℕ → A) → List ℕ → ℕ → ℕ → A
field_of none read s at width = cond (eqb at 0) none (cond (leb (length s) (at + width)) none (read (at + width + 1) (take width (drop at s))))

unfoldable pub field_by : {A : Type 0} → A → (ℕ → List ℕ → A) → List ℕ → ℕ → ℕ → A
field_by none read s at end = field_of none read s at (width_to end (drop at s))

abbrev pub no_number : NumberField
no_number = record { value = 0; next = 0 }

abbrev pub no_type : TypeField
no_type = record { forest = Forest.Bare; next = 0 }

-- a number of at most `most`
unfoldable pub number_before : ℕ → ℕ → Number → NumberField
number_before most next (Ok v) = cond (leb v most) (record { value = v; next = next }) no_number
number_before most next (Err Unread.Large) = no_number
number_before most next (Err Unread.Malformed) = no_number

unfoldable pub number_at : List ℕ → ℕ → ℕ → ℕ → NumberField
number_at s at end most = field_by no_number (λ next bytes. number_before most next (number_in bytes)) s at end

-- the bytes of a field from a place on
abbrev pub field_from : List ℕ → ℕ → ℕ → List ℕ
field_from s at end = take (width_to end (drop at s)) (drop at s)

-- the number `value` of the digits from `at` to `stop`, with what is left of the field behind them, is what all of it is
pub record Leads (s : List ℕ) (at end value stop : ℕ) : Type 0 where
  pub behind : at ≤ stop
  pub ended : stop + width_to end (drop stop s) ≡ at + width_to end (drop at s)
  pub read : more (Ok value) (field_from s stop end) ≡ more (Ok 0) (field_from s at end)

-- at `stop` a field that is a value ends
abbrev pub Stops : List ℕ → ℕ → ℕ → ℕ → Type 0
Stops s end value stop = stop < length s → (v : ℕ) → more (Ok value) (field_from s stop end) ≡ Ok v → get_or s stop 0 ≡ end

unfoldable pub type_before : ℕ → Option Forest → TypeField
type_before next (Some forest) = record { forest = forest; next = next }
type_before next None = no_type

unfoldable pub type_at : List ℕ → ℕ → ℕ → TypeField
type_at s at end = field_by no_type (λ next bytes. type_before next (named bytes)) s at end

-- the letter that starts a line, and the comma after it
unfoldable pub start_at : List ℕ → ℕ → ℕ → ℕ
start_at s at letter = cond (ltb (at + 1) (length s) && eqb (get_or s at 0) letter && eqb (get_or s (at + 1) 0) comma) (at + 2) 0

-- the same, where `at` is not the statement's start
unfoldable pub line_at : List ℕ → ℕ → ℕ → ℕ
line_at s at letter = cond (eqb at 0) 0 (start_at s at letter)
