pub mod Lists
pub use Lists.{outranks}
unfoldable pub use Lists.{some, every, distinct, keep, sum_by, each_at_most, sum_of, all_of}
-- the library's names that every definition is written in, passed on as they are
pub use Rattle.std.specs.Prelude.{ℕ, zero, suc, ◌+◌, ◌-◌, ◌*◌, ◌/◌, ◌%◌, ◌≤◌, min, max, ◌≡◌, Bool, true, false, not, cond, ◌&&◌, ◌||◌, length, take, drop, get_or, set, replicate, eqb, ltb, leb, ℤ, pos, negsuc, neg_ℤ, nat_abs, ◌+ℤ◌, ◌-ℤ◌, ◌*ℤ◌}
pub use Prim.Native.Char.{code}
pub use mathlib.Core.List.{List, [], ◌∷◌, ◌++◌, map, foldl}
pub use Rattle.std.proofs.lemmas.List.Edits.{sets}
