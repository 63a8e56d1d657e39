-- The numbers of bytes, a number at a time as the loop goes, and what a clear verdict says of them.
use Rattle.std.specs.Prelude.{Ok}
use Rattle.laws.proofs.{ℕ, suc, ◌+◌, ◌*◌, ◌/◌, ◌%◌, ◌<◌, ◌≤◌, ◌≡◌, refl, sym, ap, ◌∙◌, List, [], ◌∷◌, add-one, arith, length, get_or, set, drop, drop_of_length-le, drop-cons, sets, eqb-true, ltb-false, not-false, not, eqb, ltb}
use Rattle.refusals.specs.{weighed, weigh_all, smallest, Refusal}
use Rattle.refusals.proofs.Laws.{clear_before, clear_last}
use Rattle.table.specs.{longest_table}
use Rattle.table_bytes.specs.{numbers_of, decodable}

pub number-count : (bytes : List ℕ) → length (numbers_of bytes) ≡ length bytes / 2
unfolding numbers_of
number-count [] = refl
number-count (low ∷ []) = refl
number-count (low ∷ high ∷ bytes) = omega (arith, number-count bytes)

module _ (b : List ℕ) (i : ℕ) where
  pair_at : 2 * i + 1 < length b → numbers_of (drop (2 * i) b) ≡ (get_or b (2 * i) 0 + 256 * get_or b (2 * i + 1) 0) ∷ numbers_of (drop (2 * (i + 1)) b)
  unfolding numbers_of
  pair_at h =
      let two : 2 * (i + 1) ≡ suc (suc (2 * i)) = omega arith in
      rw (two, add-one (2 * i), drop-cons b (2 * i) 0 (omega arith), drop-cons b (suc (2 * i)) 0 (omega arith))

  -- a turn: the number stored and those to come are those to come before
  pub number-stored : (out : List ℕ) → 2 * i + 1 < length b
      → sets (set out i (get_or b (2 * i) 0 + 256 * get_or b (2 * i + 1) 0)) (i + 1) (numbers_of (drop (2 * (i + 1)) b)) ≡ sets out i (numbers_of (drop (2 * i) b))
  number-stored out h =
      let x = get_or b (2 * i) 0 + 256 * get_or b (2 * i + 1) 0 in
      ap (λ (k : ℕ). sets (set out i x) k (numbers_of (drop (2 * (i + 1)) b))) (add-one i) ∙ sym (ap (sets out i) (pair_at h))

  pub numbers_end : (out : List ℕ) → length b ≤ 2 * i → out ≡ sets out i (numbers_of (drop (2 * i) b))
  unfolding numbers_of
  numbers_end out h = rw (drop_of_length-le b h)

-- what a clear verdict says of the bytes and the room
pub clear_decodable : (bytes : List ℕ) (room : ℕ) → decodable bytes room ≡ Ok tt → (length bytes % 2 ≡ 0) × (length bytes / 2 ≤ room)
unfolding decodable smallest weigh_all
clear_decodable bytes room e =
    let before = clear_before _ _ Refusal.OutputShort e in (
      eqb-true _ _ (not-false _ (clear_last (Ok tt) _ Refusal.TableColumn (clear_before _ _ Refusal.TableColumn before))),
      ltb-false _ _ (clear_last _ _ Refusal.OutputShort e),
    )

-- and where it is clear
pub all_clear : (bytes : List ℕ) (room : ℕ) → weighed (Ok tt) (not (eqb (length bytes % 2) 0)) Refusal.TableColumn ≡ Ok tt
    → weighed (Ok tt) (ltb longest_table (length bytes / 2)) Refusal.TableColumn ≡ Ok tt → weighed (Ok tt) (ltb room (length bytes / 2)) Refusal.OutputShort ≡ Ok tt
    → decodable bytes room ≡ Ok tt
unfolding decodable smallest weigh_all
all_clear bytes room odd long short = simp (odd, long, short)
