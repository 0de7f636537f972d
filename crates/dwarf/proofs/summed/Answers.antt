-- `dwarf::summed` sums what its closure says of each function.
use native.Mathlib.Omega.{arith}
use Rattle.dwarf.proofs.AtMost.{start, turn, ended}
use Rattle.dwarf.proofs.summed.Goals as goal

pub loop-k-init : goal.loop-k-init
loop-k-init g c = (omega arith, omega arith, λ of says. start of c.args.n)

pub loop-k-preserved : goal.loop-k-preserved
loop-k-preserved g c = (
  omega (arith, c.loop-k-test.true),
  omega (arith, c.loop-k.invariant.1, c.requires.2 c.loop-k.k c.number-sum.result c.loop-k-test.true c.number-sum.ensures),
  λ of says.
      turn (c.loop-k.invariant.2 of says) c.loop-k-test.true (says c.loop-k.k c.number-sum.result c.loop-k-test.true c.number-sum.ensures),
)

pub returns : goal.returns
returns g c = λ of says. ended (c.loop-k.invariant.2 of says) c.loop-k-test.false
