-- `apply::copy_in` meets its contract.
use Rattle.std.proofs.Common.{arith}
use Rattle.apply.proofs.Copies.{copy_start, copy_turn, copy_ended}
use Rattle.apply.proofs.copy_in.Goals as goal

pub loop-i-init : goal.loop-i-init
loop-i-init c = copy_start c.args.out.now c.args.bytes.now c.requires

pub bounds-out-i : goal.bounds-out-i
bounds-out-i c = omega (arith, c.loop-i.invariant.kept, c.requires, c.loop-i-test.true)

pub loop-i-preserved : goal.loop-i-preserved
loop-i-preserved c = copy_turn c.loop-i.invariant c.loop-i-test.true

pub returns : goal.returns
returns c = copy_ended c.loop-i.invariant c.loop-i-test.false
