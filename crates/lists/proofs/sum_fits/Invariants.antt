use Prim.Native.Nat.{ℕ, ◌≤◌, ◌<◌}
use mathlib.Core.Path.{◌≡◌}
use Rattle.format.specs.Lists.{most_records}
use Rattle.lists.proofs.Sums.{Summing}
use Rattle.lists.proofs.sum_fits.Given as goal

abbrev pub invariant-loop-k : goal.invariant-loop-k
invariant-loop-k g l =
    (l.sum ≤ most_records)
    × ((of : ℕ → ℕ) → ((k x : ℕ) → k < l.n → goal.F-post g l.number k x → x ≡ of k) → Summing of l.n l.k l.sum)
