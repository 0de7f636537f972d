-- A function's rows as the reader runs them, one after another with its refusals: what stands between the bytes that are read and what the rows say.
use Prim.Native.Nat.{ℕ}
use mathlib.Core.Bool.{Bool, true, false}
use mathlib.Core.List.{List, [], ◌∷◌}
use lib.Dec.{leb}
use Rattle.format.specs.Prelude.{pick, Result, good, onward}
use Rattle.format.specs.declared.Machine.{Machine}
use Rattle.format.specs.declared.Row.{Row}
use Rattle.format.specs.declared.Rule.{Rule}
use Rattle.format.specs.Rows.{RowAt}
use Rattle.format.specs.Lists.{Function}
use Rattle.format.specs.Headers.{leading, others}
use Rattle.format.specs.Rules.{State, blank, act}

unfoldable pub act_all : (header : Bool) (initial : ℕ → Rule) → List Row → State → Result State
act_all header initial [] s = good s
act_all header initial (r ∷ rs) s = onward (act header initial r s) (act_all header initial rs)

-- the rows while their offset is at most p
unfoldable pub while : ℕ → List RowAt → List Row
while p [] = []
while p (x ∷ xs) = pick (leb x.0 p) (x.1 ∷ while p xs) []

-- the leading rows from the blank state, then the others while their offset is at most p
unfoldable pub run_rows : Machine → Function → (p : ℕ) → Result State
run_rows m f p =
    onward (act_all true blank.current.rules (leading m f) blank) λ s. act_all false s.current.rules (while p (others f.rows)) s
