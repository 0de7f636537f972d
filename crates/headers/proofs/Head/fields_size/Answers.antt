-- `fields_size` adds up.
use native.Mathlib.Omega.{arith}
use Rattle.headers.specs.Kinds.{head_in}
use Rattle.headers.proofs.Lengths.{debug_length, eh_length}
use Rattle.headers.proofs.Head.fields_size.Goals as goal

pub returns-then-debug : goal.returns-then-debug
unfolding head_in
returns-then-debug c = (
  rw c.if-debug.true (omega (arith, debug_length c.args.self.now.machine.now (head_in c.args.self.now.extent.now), c.middle_size-n.ensures.0)),
  omega (arith, c.middle_size-n.ensures.1),
)

pub returns : goal.returns
unfolding head_in
returns c = (
  rw c.if-debug.false
      (omega (
        arith,
        eh_length c.args.self.now.machine.now (head_in c.args.self.now.extent.now) (omega (arith, c.data_size.ensures)),
        c.middle_size-n.ensures.0,
        c.letters_size.ensures.0,
        c.data_size.ensures.0,
      )),
  omega (arith, c.middle_size-n.ensures.1, c.letters_size.ensures.1, c.data_size.ensures.1),
)
