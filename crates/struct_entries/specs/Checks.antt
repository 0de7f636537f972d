-- The row check of row structs (document 01, "Rules and row check"; D19).
use Rattle.std.specs.Prelude.{ℕ, Bool, ◌&&◌, List}
use Rattle.format.specs.Prelude.{each}
use Rattle.format.specs.Lists.{row_stride, count, all_in, row_ok_at, row_at, mark_ok, mark}
use Rattle.format.specs.RowCheck.{row_check}
use Rattle.struct_entries.specs.declared.RowAt.{RowAt}
use Rattle.struct_entries.specs.Structs.{row_numbers, numbers_of}

-- a function that has all rows of a list of numbers; a simple mark above 1 and numbers that are no row are a no
unfoldable pub check_numbers : (simple : ℕ) → List ℕ → Bool
check_numbers simple ns =
    mark_ok simple && all_in (row_ok_at ns) 0 (count row_stride ns) && row_check (mark simple) (each (row_at ns) 0 (count row_stride ns))

-- one that has all rows of a list of structs: the check of the numbers that they mean
unfoldable pub check_of : (simple : ℕ) → List RowAt → Bool
check_of simple rows = check_numbers simple (numbers_of row_numbers rows)
