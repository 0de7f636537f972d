-- `read_le` reads the field that stands there.
use Prim.Native.Nat.{◌+◌, ◌-◌}
use native.Mathlib.Omega.{arith}
use Rattle.operations.proofs.FieldLoop.{start, turn, room, ended, missing, nothing}
use Rattle.operations.proofs.fields.read_le.Goals as goal

pub returns-then-n-eq0 : goal.returns-then-n-eq0
returns-then-n-eq0 c = nothing _ _ _ c.if-n-eq0.true c.if-s-from.true

pub returns-then-s-from : goal.returns-then-s-from
returns-then-s-from c = missing _ _ _ (omega (arith, c.if-n-eq0.false))

pub returns-then-s-from-2 : goal.returns-then-s-from-2
returns-then-s-from-2 c = missing _ _ _ c.if-s-from-2.true

pub loop-i-init : goal.loop-i-init
loop-i-init c = start c.requires (omega arith)

pub overflow_mul-acc : goal.overflow_mul-acc
overflow_mul-acc c = omega (arith, room c.loop-i.invariant c.loop-i-test.true c.from-b.ensures (omega (arith, c.from-b.ensures, (c.type_inv.s (c.args.at.at + (c.loop-i.i - 1))).fits)))

pub overflow_add-acc : goal.overflow_add-acc
overflow_add-acc c = omega (arith, room c.loop-i.invariant c.loop-i-test.true c.from-b.ensures (omega (arith, c.from-b.ensures, (c.type_inv.s (c.args.at.at + (c.loop-i.i - 1))).fits)))

pub loop-i-preserved : goal.loop-i-preserved
loop-i-preserved c = turn c.loop-i.invariant c.loop-i-test.true c.from-b.ensures (omega (arith, c.from-b.ensures, (c.type_inv.s (c.args.at.at + (c.loop-i.i - 1))).fits))

pub returns : goal.returns
returns c = ended c.loop-i.invariant c.args.at.shortest (omega (arith, c.loop-i-test.false))
