-- A part that runs past the end of a list of numbers is what is there.
use Rattle.laws.proofs.{ℕ, ◌-◌, ◌≤◌, ◌≡◌, sym, ◌∙◌, List, [], arith, length, take, drop, length-drop, drop_of_length-le, take_all}
use lib.Seq.{take-nil}

pub part_past : (numbers : List ℕ) (start len : ℕ) → length numbers ≤ start → [] ≡ take len (drop start numbers)
part_past numbers start len h = rw (drop_of_length-le numbers h) (sym (take-nil len))

pub to_the_end : (numbers : List ℕ) (start : ℕ) → take (length numbers - start) (drop start numbers) ≡ drop start numbers
to_the_end numbers start = take_all (length numbers - start) (drop start numbers) (simp length-drop (omega arith))

pub part_to_end : (numbers : List ℕ) (start len : ℕ) → length numbers - start ≤ len
    → take (length numbers - start) (drop start numbers) ≡ take len (drop start numbers)
part_to_end numbers start len h =
    to_the_end numbers start
    ∙ sym (take_all len (drop start numbers) (simp length-drop (omega arith)))
