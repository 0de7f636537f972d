use mathlib.Core.Path.{◌≡◌}
use Prim.Native.Nat.{◌-◌, ◌≤◌}
use lib.ListN.{length}
use Rattle.arm64.specs.Reader.{run_at}
use Rattle.arm64_runs.specs.Runs.{count_of}
use Rattle.arm64_runs.proofs.Stores.{more}
use Rattle.arm64_runs.proofs.count_run.Given as goal

abbrev pub invariant-loop-c : goal.invariant-loop-c
invariant-loop-c l = (l.n ≤ l.p) × (count_of (run_at l.s l.at) ≡ more l.n (run_at l.s l.p))

abbrev pub decreases-loop-c : goal.decreases-loop-c
decreases-loop-c l = length l.s - l.p
