-- `all` has counted no more lists than blocks that it has read.
use Rattle.std.proofs.Common.{◌≤◌}
use Rattle.cases.specs.Total.{total}
use Rattle.cases.proofs.all.Given as goal

abbrev pub invariant-loop-index : goal.invariant-loop-index
invariant-loop-index g l = total l.sums ≤ l.index
