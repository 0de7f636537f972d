use Prim.Native.Nat.{ℕ, ◌*◌, ◌≤◌, ◌<◌}
use mathlib.Core.Path.{◌≡◌}
use Rattle.format.specs.Lists.{most_records}
use Rattle.dwarf.proofs.AtMost.{Adding}
use Rattle.dwarf.proofs.summed.Given as goal

abbrev pub invariant-loop-k : goal.invariant-loop-k
invariant-loop-k g l =
    (l.k ≤ l.n) × (l.sum ≤ most_records * l.k)
    × ((of : ℕ → ℕ) → ((k v : ℕ) → k < l.n → goal.F-post g l.number k v → v ≡ of k) → Adding of l.n l.k l.sum)
