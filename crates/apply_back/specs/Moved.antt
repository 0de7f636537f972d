-- What a function becomes where a linker moved its labels (request W-211): its new length, its rows moved, and the rules that they give.
use Rattle.std.specs.Prelude.{ℕ, ◌+◌, ◌-◌, List, [], ◌∷◌}
use Rattle.std.proofs.Math.Option.{Option, none, some}
use Rattle.format.specs.declared.Machine.{Machine}
use Rattle.format.specs.Rows.{RowAt}
use Rattle.format.specs.Lists.{Function, Pair, Relaxed}
use Rattle.format.specs.Headers.{others}
use Rattle.format.specs.Records.{pair_for}
use Rattle.format.specs.Rules.{State, apply_rows, up_to, entry_state}
use Rattle.apply.specs.Values.{address_of}

-- an address, where the symbol has one; a relocation to any other is refused (79)
unfoldable pub or_zero : Option ℕ → ℕ
or_zero none = 0
or_zero (some n) = n

-- from one label to another; the pair of a section that is accepted has no negative distance (79 of a Sum pair, 80 of Set and Sub)
unfoldable pub between : (symbols : List (ℕ × ℕ)) (from to : ℕ) → ℕ
between symbols from to = or_zero (address_of symbols to) - or_zero (address_of symbols from)

-- a function's length: from its symbol to its end label where it has relaxing labels
unfoldable pub length_in : (symbols : List (ℕ × ℕ)) (symbol size : ℕ) → Option Relaxed → ℕ
length_in symbols symbol size none = size
length_in symbols symbol size (some r) = between symbols symbol r.end

unfoldable pub new_length : List (ℕ × ℕ) → Function → ℕ
new_length symbols f = length_in symbols f.symbol f.size f.relaxed

-- a function's pairs of labels
unfoldable pub pairs_of : Option Relaxed → List Pair
pairs_of none = []
pairs_of (some r) = r.pairs

-- a step: the distance of its pair's labels, or as it was written
unfoldable pub step_or : (symbols : List (ℕ × ℕ)) (written : ℕ) → Option Pair → ℕ
step_or symbols written none = written
step_or symbols written (some p) = between symbols p.symbol1 p.symbol2

unfoldable pub new_step : List (ℕ × ℕ) → List Pair → (from to : ℕ) → ℕ
new_step symbols ps from to = step_or symbols (to - from) (pair_for from to ps)

-- Rows moved, each to the sum of the steps before it: the row before them was at `from` and is now at `at`.
unfoldable pub moved_from : List (ℕ × ℕ) → List Pair → (from at : ℕ) → List RowAt → List RowAt
moved_from symbols ps from at [] = []
moved_from symbols ps from at (x ∷ xs) =
    let there : ℕ = at + new_step symbols ps from x.0 in
    (there, x.1) ∷ moved_from symbols ps x.0 there xs

-- the rows that do not lead; which ones lead is said before the move
unfoldable pub moved_rows : List (ℕ × ℕ) → Function → List RowAt
moved_rows symbols f = moved_from symbols (pairs_of f.relaxed) 0 0 (others f.rows)

-- the leading rows, then the others whose offset after the move is at most p
unfoldable pub moved_rules : Machine → List (ℕ × ℕ) → Function → (p : ℕ) → State
moved_rules m symbols f p = let s : State = entry_state m f in apply_rows s.current.rules (up_to p (moved_rows symbols f)) s
