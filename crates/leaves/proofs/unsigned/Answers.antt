-- `unsigned` writes into room for ten bytes, the most that a number of 64 bits takes.
use Rattle.std.proofs.Common.{arith}
use Rattle.format.proofs.LebBack.{uleb_short}
use Rattle.leaves.proofs.Room.{counted}
use Rattle.leaves.proofs.unsigned.Goals as goal

pub uleb-n-requires : goal.uleb-n-requires
uleb-n-requires g c = omega (arith, uleb_short 9 c.args.v (omega arith))

pub slice_bounds-out-end : goal.slice_bounds-out-end
slice_bounds-out-end g c = omega (arith, c.uleb-n.ensures.past, uleb_short 9 c.args.v (omega arith))

pub slice_bounds-s-end : goal.slice_bounds-s-end
slice_bounds-s-end g c = counted c.uleb-n.ensures (uleb_short 9 c.args.v (omega arith))
