-- `Checked::put_owns` meets its contract.
use native.Mathlib.Omega.{arith}
use Rattle.arm64_function.proofs.Codes.{codes_start, codes_turn, codes_ended, codes_room}
use Rattle.arm64_function.proofs.Checked.put_owns.Goals as goal

pub loop-i-init : goal.loop-i-init
loop-i-init c = codes_start c.args.self.now.function.epilogues.now c.args.self.now.function.codes.now c.args.self.now.function.parts c.requires

pub put_own-q-requires : goal.put_own-q-requires
put_own-q-requires c = ((c.loop-i.invariant.low, c.loop-i-test.true), codes_room c.loop-i.invariant c.loop-i-test.true)

pub loop-i-smaller : goal.loop-i-smaller
loop-i-smaller c = omega (arith, c.loop-i-test.true)

pub loop-i-preserved : goal.loop-i-preserved
loop-i-preserved c = codes_turn c.loop-i.invariant c.loop-i-test.true c.put_own-q.ensures

pub shape_of-out : goal.shape_of-out
shape_of-out c = c.loop-i.invariant.left.kept

pub returns : goal.returns
returns c = codes_ended c.loop-i.invariant (omega (arith, c.loop-i-test.false))
