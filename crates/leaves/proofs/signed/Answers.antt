-- `signed` writes into room for ten bytes, the most that a number of 64 bits takes.
use Rattle.std.proofs.Common.{arith}
use Rattle.leaves.proofs.Room.{sleb_room, counted}
use Rattle.leaves.proofs.signed.Goals as goal

pub sleb-n-requires : goal.sleb-n-requires
sleb-n-requires g c = omega (arith, sleb_room c.args.v c.ranges.v)

pub slice_bounds-out-end : goal.slice_bounds-out-end
slice_bounds-out-end g c = omega (arith, c.sleb-n.ensures.past, sleb_room c.args.v c.ranges.v)

pub slice_bounds-s-end : goal.slice_bounds-s-end
slice_bounds-s-end g c = counted c.sleb-n.ensures (sleb_room c.args.v c.ranges.v)
