-- The part of a schedule's cells at a column's place is the column: the cells before it are those of the columns before it.
use Rattle.laws.proofs.{ℕ, zero, suc, ◌+◌, ◌≡◌, refl, ap, ◌∙◌, List, [], ◌∷◌, ◌++◌, append_assoc, append-nil, length, get_or, take, drop, length-append, take-append_seam}
use lib.Seq.{drop_at}
use Rattle.forest.specs.{Forest, order_of}
use Rattle.schedules.specs.{Kind, Place, Column, no_column, joined, no_place, places_from, stock4, stock6, residue6, schedule4, schedule6, column_four, column_six, place_four, place_six}

-- a place holds a column: its cells stand there, and the first ages agree
pub record Holds (cells : List ℕ) (p : Place) (c : Column) : Type 0 where
  pub part : take p.len (drop p.start cells) ≡ c.cells
  pub first : p.first ≡ c.first

none_holds : (cells : List ℕ) → Holds cells no_place no_column
none_holds cells = record { part = refl; first = refl }

-- each column stands at its place, behind the cells that come before
each_holds : (before after : List ℕ) (cs : List Column) (at k : ℕ) → length before ≡ at
    → Holds (before ++ (joined cs ++ after)) (get_or (places_from at cs) k no_place) (get_or cs k no_column)
unfolding joined places_from
each_holds before after [] at k e = none_holds _
each_holds before after (c ∷ cs) at zero e = record { part = rw (append_assoc c.cells (joined cs) after) (ap (take (length c.cells)) (drop_at before _ at e) ∙ take-append_seam c.cells _); first = refl }
each_holds before after (c ∷ cs) at (suc k) e =
    rw (append_assoc c.cells (joined cs) after, ← append_assoc before c.cells (joined cs ++ after))
    (each_holds (before ++ c.cells) after cs (at + length c.cells) k (length-append before c.cells ∙ ap (λ (n : ℕ). n + length c.cells) e))

-- the same with bare land in front, as the types go
type_holds : (before after : List ℕ) (cs : List Column) (at k : ℕ) → length before ≡ at
    → Holds (before ++ (joined cs ++ after)) (get_or (no_place ∷ places_from at cs) k no_place) (get_or (no_column ∷ cs) k no_column)
type_holds before after cs at zero e = none_holds _
type_holds before after cs at (suc k) e = each_holds before after cs at k e

pub six_holds : (kind : Kind) (forest : Forest) → Holds schedule6 (place_six kind forest) (column_six kind forest)
unfolding schedule6 place_six column_six
six_holds Kind.Stock forest = type_holds [] (joined residue6) stock6 0 (order_of forest) refl
six_holds Kind.Residue forest = rw append-nil at (type_holds (joined stock6) [] residue6 (length (joined stock6)) (order_of forest) refl)

pub four_holds : (forest : Forest) → Holds schedule4 (place_four forest) (column_four forest)
unfolding schedule4 place_four column_four
four_holds forest = rw append-nil at (type_holds [] [] stock4 0 (order_of forest) refl)
