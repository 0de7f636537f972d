-- `lists::sum_fits` sums what its closure says of each record.
use native.Mathlib.Omega.{arith}
use Rattle.lists.proofs.Sums.{start, turn, stopped, ended}
use Rattle.lists.proofs.sum_fits.Goals as goal

pub loop-k-init : goal.loop-k-init
loop-k-init g c = (omega arith, λ of says. start of c.args.n)

pub returns-then-sum-x : goal.returns-then-sum-x
returns-then-sum-x g c = λ of says.
    stopped (c.loop-k.invariant.1 of says) c.loop-k-test.true (says c.loop-k.k c.number-x.result c.loop-k-test.true c.number-x.ensures) c.if-sum-x.true

pub loop-k-preserved : goal.loop-k-preserved
loop-k-preserved g c = (
  omega arith,
  λ of says.
      turn (c.loop-k.invariant.1 of says) c.loop-k-test.true (says c.loop-k.k c.number-x.result c.loop-k-test.true c.number-x.ensures) c.if-sum-x.false,
)

pub returns : goal.returns
returns g c = λ of says. ended (c.loop-k.invariant.1 of says) c.loop-k-test.false
