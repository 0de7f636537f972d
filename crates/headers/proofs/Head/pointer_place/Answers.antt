-- `pointer_place` is where the definition has the pointer.
use native.Mathlib.Omega.{arith}
use Rattle.format.specs.Headers.{pointer_place}
use Rattle.headers.specs.Kinds.{head_in}
use Rattle.headers.proofs.Lengths.{eh_length}
use Rattle.headers.proofs.Head.pointer_place.Goals as goal

pub overflow_sub-result : goal.overflow_sub-result
unfolding head_in
overflow_sub-result c =
    omega (arith, eh_length c.args.self.now.machine.now (head_in c.args.self.now.extent.now) (omega (arith, c.data_size.ensures)), c.fields_size.ensures.0, c.data_size.ensures.0)

pub returns : goal.returns
unfolding pointer_place head_in
returns c = rw (← c.fields_size.ensures.0, ← c.data_size.ensures.0)
