-- The row check of row structs, by the numbers that they mean.
use mathlib.Core.Path.{◌≡◌}
use Prim.Native.Nat.{ℕ, ◌≤◌, ◌<◌}
use mathlib.Core.Bool.{false}
use mathlib.Core.List.{List}
use lib.ListN.{length}
use borrow.Author.Tests.{lt-leb, le-leb}
use Rattle.format.specs.Lists.{row_ok_at, row_at, mark_ok, mark}
use Rattle.rules.specs.Whole.{all_follow}
use Rattle.struct_entries.specs.declared.RowAt.{RowAt}
use Rattle.struct_entries.specs.Checks.{check_numbers, check_of}
use Rattle.struct_entries.proofs.Meaning.{all_of, row_count}

pub unmarked : (simple : ℕ) (ys : List RowAt) → 1 < simple → false ≡ check_of simple ys
unfolding check_of check_numbers mark_ok
unmarked simple ys h = rw (lt-leb simple 1 h)

pub checked : (simple : ℕ) (ys : List RowAt) → simple ≤ 1 → all_follow (mark simple) (row_ok_at (all_of ys)) (row_at (all_of ys)) 0 (length ys) ≡ check_of simple ys
unfolding check_of check_numbers mark_ok all_follow
checked simple ys h = rw (row_count ys, le-leb simple 1 h)
