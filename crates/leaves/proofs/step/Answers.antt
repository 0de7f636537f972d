-- `step` writes into room for five bytes, the most that a step takes.
use Rattle.std.proofs.Common.{arith}
use Rattle.format.proofs.Sizes.{step_short}
use Rattle.leaves.proofs.Room.{counted}
use Rattle.leaves.proofs.step.Goals as goal

pub advance-n-requires : goal.advance-n-requires
advance-n-requires g c = omega (arith, step_short c.args.by)

pub slice_bounds-out-end : goal.slice_bounds-out-end
slice_bounds-out-end g c = omega (arith, c.advance-n.ensures.past, step_short c.args.by)

pub slice_bounds-s-end : goal.slice_bounds-s-end
slice_bounds-s-end g c = counted c.advance-n.ensures (step_short c.args.by)
