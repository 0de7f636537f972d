-- Rows that can be read.
use Rattle.std.specs.Prelude.{ℕ, ◌*◌, ◌^◌, ◌≤◌, ◌<◌, List, length, T, ℤ}
use Rattle.std.specs.Int.Signed.{mag}
use Rattle.format.specs.Lists.{count, row_stride, row_ok_at}

-- an offset of a row
abbrev pub Short : ℤ → Type 0
Short z = mag z < 2 ^ 31

-- the rows from `at` to `end` can be read
pub record Ready (rows : List ℕ) (at end : ℕ) : Type 0 where
  pub inside : row_stride * end ≤ length rows
  pub ok : (k : ℕ) → at ≤ k → k < end → T (row_ok_at rows k)

-- and those of a list
abbrev pub AreRows : List ℕ → Type 0
AreRows rows = Ready rows 0 (count row_stride rows)
