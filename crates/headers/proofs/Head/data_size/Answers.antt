-- `data_size` goes by the personality.
use native.Mathlib.Omega.{arith}
use Rattle.format.specs.Headers.{augmentation_data}
use Rattle.headers.proofs.Lengths.{bit_low, data_length}
use Rattle.headers.proofs.Personalities.{names, names_none}
use Rattle.headers.proofs.Head.data_size.Goals as goal

pub overflow_add-result : goal.overflow_add-result
overflow_add-result c = omega (arith, c.pointer_bytes-pointer.ensures.1 c.args.self.now.small)

pub overflow_add-result-in-Some : goal.overflow_add-result-in-Some
overflow_add-result-in-Some c = omega (arith, c.pointer_bytes-pointer.ensures.1 c.args.self.now.small, c.from.ensures, bit_low c.is_some.result)

pub returns-in-Some : goal.returns-in-Some
returns-in-Some c = (
  rw ((names c.args.self.now.extent.now c.personality.ensures c.in-Some.is).bytes c.args.self.now.machine.now.word, data_length c.args.self.now.machine.now.word c.in-Some.p)
      (omega (arith, rw c.is_some.ensures at c.from.ensures, c.pointer_bytes-pointer.ensures.0)),
  omega (arith, c.from.ensures, bit_low c.is_some.result, c.pointer_bytes-pointer.ensures.1 c.args.self.now.small),
)

pub returns-in-None : goal.returns-in-None
unfolding augmentation_data
returns-in-None c = (rw (names_none c.args.self.now.extent.now c.personality.ensures c.in-None.is).0, omega arith)
