-- The row check of rows that calls give.
use Rattle.std.specs.Prelude.{◌≡◌, ℕ, ◌+◌, ◌<◌, ◌≤◌, Bool, ◌&&◌, Option}
use Rattle.std.specs.Bool.{then_some}
use Rattle.format.specs.Prelude.{each}
use Rattle.format.specs.Lists.{all_in}
use Rattle.format.specs.Rows.{RowAt}
use Rattle.format.specs.RowCheck.{row_check}

-- Of the n places from `at` on a call gives the row, where ok says that there is one.
abbrev pub Gives : (post : ℕ → Option RowAt → Type 0) (ok : ℕ → Bool) (rows : ℕ → RowAt) (at n : ℕ) → Type 0
Gives post ok rows at n = (i : ℕ) (r : Option RowAt) → at ≤ i → i < at + n → post i r → r ≡ then_some (ok i) (rows i)

-- each of them is a row, and they pass the row check
unfoldable pub all_follow : (simple : Bool) (ok : ℕ → Bool) (rows : ℕ → RowAt) (at n : ℕ) → Bool
all_follow simple ok rows at n = all_in ok at n && row_check simple (each rows at n)
