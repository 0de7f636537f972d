-- Rows and the steps between them, in a list of numbers.
use Rattle.std.specs.Prelude.{◌≡◌, ℕ, ◌+◌, ◌-◌, ◌*◌, ◌^◌, ◌≤◌, ◌<◌, true, List, ◌++◌, T, length, Option, Some, None}
use Rattle.format.specs.Prelude.{all, each}
use Rattle.format.specs.Rows.{RowAt, row_bytes, step_bytes, stepped_bytes, row_whole}
use Rattle.format.specs.Lists.{row_stride, row_at, row_ok_at, most_records}
use Rattle.format.specs.Questions.{steps_ok}
use Rattle.format.proofs.RowBack.{RowFits}
use Rattle.format.proofs.WalkBack.{RowsAtOk}
use Rattle.header_keys.specs.Functions.{RowsReady}

-- a row and its step, from the offset `from` on
unfoldable pub stepped_row_bytes : (w from : ℕ) → RowAt → List ℕ
stepped_row_bytes w from x = step_bytes (x.0 - from) ++ row_bytes w x.1

-- n rows from `at` on, the first of them from the offset `from` on
unfoldable pub rows_in : (w from : ℕ) (rows : List ℕ) (at n : ℕ) → List ℕ
rows_in w from rows at n = stepped_bytes w from (each (row_at rows) at n)

-- row i can be written, from the offset `from` on
pub record SteppedRowReady (w from : ℕ) (rows : List ℕ) (i : ℕ) : Type 0 where
  pub word_low : 2 ≤ w
  pub word_high : w ≤ 8
  pub inside : row_stride * i + row_stride ≤ length rows
  pub ok : T (row_ok_at rows i)
  pub forward : from ≤ (row_at rows i).0
  pub fits : RowFits w (row_at rows i).1

-- and n rows from `at` on, the first of them from the function's start on
pub record SteppedReady (w : ℕ) (rows : List ℕ) (at n : ℕ) : Type 0 where
  pub word_low : 2 ≤ w
  pub word_high : w ≤ 8
  pub ready : RowsReady rows at n
  pub few : n ≤ most_records
  pub lines : RowsAtOk w 0 (each (row_at rows) at n)

-- row i passes questions 13, 23 and 24, from the offset `from` on, and has `size` bytes with its step
pub record SurveyedRow (w from : ℕ) (rows : List ℕ) (i size : ℕ) : Type 0 where
  pub ok : T (row_ok_at rows i)
  pub forward : from ≤ (row_at rows i).0
  pub near : (row_at rows i).0 - from < 2 ^ 32
  pub fits : RowFits w (row_at rows i).1
  pub bytes : size ≡ length (stepped_row_bytes w from (row_at rows i))

-- and n rows from `at` on, the first of them from the function's start on
pub record SurveyedRows (w : ℕ) (rows : List ℕ) (at n size : ℕ) : Type 0 where
  pub ready : RowsReady rows at n
  pub steps : steps_ok 0 (each (row_at rows) at n) ≡ true
  pub whole : all (λ x. row_whole w x.1) (each (row_at rows) at n) ≡ true
  pub bytes : size ≡ length (rows_in w 0 rows at n)

abbrev pub Surveyed : (w : ℕ) (rows : List ℕ) (at n : ℕ) → Option ℕ → Type 0
Surveyed w rows at n (Some size) = SurveyedRows w rows at n size
Surveyed w rows at n None = Unit
