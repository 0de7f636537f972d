-- The relocations of steps between places with labels, over lists of numbers.
use Rattle.std.specs.Prelude.{◌≡◌, ℕ, ◌+◌, ◌-◌, ◌≤◌, ◌<◌, Bool, true, ◌&&◌, List, eqb}
use denote.Struct.Props as logic
use Rattle.std.proofs.Math.Option.{Option, none, some}
use Rattle.format.specs.Prelude.{each}
use Rattle.format.specs.Rows.{step_form}
use Rattle.format.specs.Lists.{Pair, Relocation, row_at, pair_at}
use Rattle.format.specs.Records.{pair_for, set_pair, step_relocs}
use Rattle.lists.specs.Extents.{meant_pair}
use Rattle.lists.specs.declared.Pair as lists
use Rattle.std.specs.Prelude as code
use Rattle.std.specs.Prelude.{Some, None}

-- a pair is for the step from one place to another
unfoldable pub is_for : (from to : ℕ) → Pair → Bool
is_for from to p = eqb p.place1 from && eqb p.place2 to

-- what a search for a pair found
unfoldable pub found_pair : code.Option lists.Pair → Option Pair
found_pair (Some p) = some (meant_pair p)
found_pair None = none

-- the pair of a step, of n pairs from `at` on
unfoldable pub pair_between : (from to : ℕ) (pairs : List ℕ) (at n : ℕ) → Option Pair
pair_between from to pairs at n = pair_for from to (each (pair_at pairs) at n)

-- the first places of n pairs from `at` on rise
pub record Rising (pairs : List ℕ) (at n : ℕ) : Type 0 where
  pub rise : (j k : ℕ) → at ≤ j → j < k → k < at + n → (pair_at pairs j).place1 < (pair_at pairs k).place1

pub Rising-prop : (rising : Bool) (pairs : List ℕ) (at n : ℕ) → IsProp (rising ≡ true → Rising pairs at n)
Rising-prop rising pairs at n = Prim.hlevel logic.props

-- those in front of pair i are below `from`, those behind it above
pub record Parted (pairs : List ℕ) (at n i from : ℕ) : Type 0 where
  pub low : at ≤ i
  pub high : i ≤ at + n
  pub below : (j : ℕ) → at ≤ j → j < i → (pair_at pairs j).place1 < from
  pub beyond : (j : ℕ) → i < j → j < at + n → from < (pair_at pairs j).place1

-- the relocations of the step, of a function's pairs
unfoldable pub step_pair : (place from to : ℕ) → List Pair → List Relocation
step_pair place from to pairs = set_pair place (step_form (to - from)) (pair_for from to pairs)

-- and those of n rows from `at` on, the first of them from the offset `from` on
unfoldable pub steps_in : (w place from : ℕ) (rows : List ℕ) (at n : ℕ) → List Pair → List Relocation
steps_in w place from rows at n pairs = step_relocs w place from pairs (each (row_at rows) at n)
