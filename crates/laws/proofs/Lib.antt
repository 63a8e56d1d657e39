pub mod Choosing
pub mod Distinct
pub mod Elements
pub mod Found
pub mod Lists
pub mod Order
pub mod Signed
pub mod Standing
pub mod Stores
pub mod Tests
pub mod Turns
-- what every proof cites, passed on
pub use Prim.Native.Nat.{ℕ, zero, suc, ◌+◌, ◌-◌, ◌*◌, ◌/◌, ◌%◌, ◌^◌, ◌≤◌, ◌<◌, min, max}
pub use native.Mathlib.Numerals.{add-one, unary_clauses, add-one-le, add-one-dec}
pub use native.Mathlib.Omega.{arith}
pub use mathlib.Core.Path.{◌≡◌, refl, sym, ap, subst, ◌∙◌}
pub use mathlib.Core.Logic.{◌⊎◌, inl, inr, ⊎_elim}
pub use mathlib.Core.Bool.{Bool, true, false, not, cond, ◌&&◌, ◌||◌}
pub use mathlib.Core.List.{List, [], ◌∷◌, ◌++◌, append_assoc, append-nil, map}
pub use lib.ListN.{length, take, drop, get_or, set, replicate, length-take, length-drop, length-append, length-set, length-map, length-replicate, drop_of_length-le, take-append-drop}
pub use lib.Seq.{sets, drop-cons, drop-drop, take_all, take-suc, take-append_seam, get_or-take, get_or-drop, set_out}
pub use lib.Dec.{eqb, ltb, leb, lit≤, lit<}
pub use borrow.Author.Rules.{rules}
pub use borrow.Author.Tests.{eqb-true, eqb-false, ltb-true, ltb-false, leb-true, leb-false, eq-eqb, ne_eqb, le-leb, lt-leb, le-ltb, lt-ltb, not-true, not-false}
