-- `uleb` stores the unsigned LEB number.
use Rattle.leb.proofs.SevenBits.{unsigned}
use native.Mathlib.Omega.{arith}
use Rattle.leb.proofs.uleb.Goals as goal

pub groups-requires : goal.groups-requires
groups-requires c = (omega arith, omega arith, rw (unsigned c.args.v) c.requires)

pub returns : goal.returns
returns c = rw (unsigned c.args.v) at c.groups.ensures
