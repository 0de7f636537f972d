-- `sleb` stores the signed LEB number.
use Rattle.leb.proofs.Signs.{below_zero, bytes_of}
use native.Mathlib.Omega.{arith}
use Rattle.leb.proofs.sleb.Goals as goal

pub groups-requires : goal.groups-requires
groups-requires c =
    (omega arith, omega arith, rw (bytes_of c.args.v c.ranges.v (below_zero _) c.magnitude.ensures.0) c.requires)

pub returns : goal.returns
returns c =
    rw (bytes_of c.args.v c.ranges.v (below_zero _) c.magnitude.ensures.0) at c.groups.ensures
