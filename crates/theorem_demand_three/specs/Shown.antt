-- "A statement written after the list shows these two totals, the number of returns and the closing stock."
use Rattle.std.specs.Prelude.{◌≡◌, ◌∷◌, ◌++◌}
use Rattle.laws.specs.{ℕ, List, [], length, code}
use Rattle.text.specs.{comma, line_end}
use Rattle.std.proofs.Math.Option.{Option, none, some}
use Rattle.theorem_ledger.specs.{Row}
use Rattle.statement_format.specs.{start_text, number_text, joined, flag}
use Rattle.theorem_accounts.specs.{Reported}

-- "A,number,opening,open year,latest year,withdrawn (0 or 1),returns,stock kg (last closing, else opening),received,surrendered,subs"
unfoldable pub area_line : (number opening open_year latest withdrawn returns stock received surrendered subs : ℕ) → List ℕ
area_line number opening open_year latest withdrawn returns stock received surrendered subs =
    joined
    (start_text (code "A") ∷ number_text number comma ∷ number_text opening comma ∷ number_text open_year comma ∷ number_text latest comma ∷ number_text withdrawn comma
    ∷ number_text returns comma ∷ number_text stock comma ∷ number_text received comma ∷ number_text surrendered comma ∷ number_text subs line_end ∷ [])

-- the line of the area n stands in the statement, behind a line's end (byte 10): the totals as reported, the rest as the ledger has it, which
-- keeps neither the open nor the latest year
pub record LineShown (statement : List ℕ) (n : ℕ) (reported : Reported) (row : Row) : Type 0 where
  pub open_year : ℕ
  pub latest : ℕ
  pub before : List ℕ
  pub after : List ℕ
  pub shown : (let line =
      area_line n row.opening_year open_year latest (flag row.withdrawn) row.returns row.closing reported.received reported.surrendered
      (length row.subs) in
      statement ≡ before ++ (line_end ∷ (line ++ after)))

-- by the ledger's row under the number
unfoldable pub Shows : List ℕ → ℕ → Reported → Option Row → Type 0
Shows statement n reported none = Unit
Shows statement n reported (some row) = LineShown statement n reported row
