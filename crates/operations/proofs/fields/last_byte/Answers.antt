-- `last_byte` finds what both readers of LEB numbers read.
use native.Mathlib.Omega.{arith}
use Rattle.operations.proofs.GroupLoop.{start, ended, found, long, turn, scale_most}
use Rattle.operations.proofs.fields.last_byte.Goals as goal

pub loop-i-init : goal.loop-i-init
loop-i-init c = start _ _

pub returns-then-b-lt128 : goal.returns-then-b-lt128
returns-then-b-lt128 c = found c.loop-i.invariant c.from-b.ensures c.loop-i-test.true c.if-b-lt128.true

pub returns-then-k-eq9 : goal.returns-then-k-eq9
returns-then-k-eq9 c = long c.loop-i.invariant c.from-b.ensures c.loop-i-test.true (omega arith) c.if-b-lt128.false

pub loop-i-preserved : goal.loop-i-preserved
loop-i-preserved c = turn c.loop-i.invariant c.from-b.ensures c.loop-i-test.true (omega (arith, c.if-k-eq9.false)) c.if-b-lt128.false (omega (arith, c.from-b.ensures, (c.type_inv.s c.loop-i.i).fits))

pub overflow_mul-acc : goal.overflow_mul-acc
overflow_mul-acc c = omega (arith, (loop-i-preserved c).below, scale_most _ _ (loop-i-preserved c).scaled (loop-i-preserved c).few)

pub overflow_add-acc : goal.overflow_add-acc
overflow_add-acc c = omega (arith, (loop-i-preserved c).below, scale_most _ _ (loop-i-preserved c).scaled (loop-i-preserved c).few)

pub overflow_mul-scale : goal.overflow_mul-scale
overflow_mul-scale c = omega (arith, (loop-i-preserved c).below, scale_most _ _ (loop-i-preserved c).scaled (loop-i-preserved c).few)

pub returns : goal.returns
returns c = ended c.loop-i.invariant c.loop-i-test.false
