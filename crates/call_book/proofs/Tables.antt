-- The table from call to call: its bytes are read back as its numbers, and a table longer by a column is again a table.
use Rattle.std.specs.Prelude.{Ok}
use Rattle.laws.proofs.{ℕ, ◌+◌, ◌*◌, ◌/◌, ◌%◌, ◌≤◌, ◌≡◌, refl, ap, ◌∙◌, true, List, [], ◌∷◌, arith, eq-eqb, le-ltb, length}
use Rattle.refusals.specs.{weighed, weigh_all, smallest, Verdict}
use Rattle.table.specs.{longest_table, is_table}
use Rattle.table.proofs.Columns.{table_fits}
use Rattle.table_bytes.specs.{numbers_of, decodable}
use Rattle.table_extend.specs.{begun}
use Rattle.table_extend.proofs.Kept.{extended_table}
use Rattle.table_grow.specs.{line_column, line_cells, longer_by, growable}
use Rattle.table_grow.proofs.Fits.{grown_extensible}
use Rattle.call_output.specs.{table_bytes}
use Rattle.call_output.proofs.TableBytes.{bytes_length}
use Rattle.call_answer.specs.{table_verdict}

pub numbers_back : (own : List ℕ) → numbers_of (table_bytes own) ≡ own
unfolding numbers_of table_bytes
numbers_back [] = refl
numbers_back (n ∷ own) =
    let whole : n % 256 + 256 * (n / 256) ≡ n = omega arith in
    ap (λ (k : ℕ). k ∷ numbers_of (table_bytes own)) whole ∙ ap (λ (l : List ℕ). n ∷ l) (numbers_back own)

pub table-accepted : (own : List ℕ) → is_table own ≡ true → table_verdict (table_bytes own) ≡ Ok tt
unfolding table_verdict decodable smallest weigh_all weighed
table-accepted own e =
    let n = bytes_length own in
    let fits = table_fits own e in
    let even : length (table_bytes own) % 2 ≡ 0 = omega (arith, n) in
    let few : length (table_bytes own) / 2 ≤ longest_table = omega (arith, n) in
    simp (eq-eqb (length (table_bytes own) % 2) 0 even, le-ltb longest_table (length (table_bytes own) / 2) few, numbers_back own, e)

pub longer-table : (own : List ℕ) (areas : ℕ) (line : List ℕ) → growable own areas line ≡ Ok tt → is_table (longer_by own line) ≡ true
unfolding longer_by
longer-table own areas line e = extended_table (begun own) (line_column line) (line_cells line) longest_table (grown_extensible own areas line e).1
