-- `Checked::put_scopes` meets its contract.
use native.Mathlib.Omega.{arith}
use Rattle.arm64_function.proofs.Scopes.{scoping_start, scoping_low, scoping_room, scoping_turn, scoping_ended}
use Rattle.arm64_function.proofs.Indexes.{index_low}
use Rattle.arm64_function.proofs.Checked.put_scopes.Goals as goal

pub loop-i-init : goal.loop-i-init
loop-i-init c = scoping_start c.args.self.now.function.epilogues.now c.args.self.now.function.codes.now c.args.self.now.function.parts c.requires c.prologue_size-next.ensures.0

pub epilogue-epilogue-requires : goal.epilogue-epilogue-requires
epilogue-epilogue-requires c = (c.loop-i.invariant.sum.low, c.loop-i-test.true)

pub scope_of-s-requires : goal.scope_of-s-requires
scope_of-s-requires c = rw (c.epilogue-epilogue.ensures.0, c.epilogue-epilogue.ensures.1) (c.loop-i.invariant.ahead, scoping_low c.loop-i.invariant c.args.self.now.whole.small, c.loop-i.invariant.known, omega (arith, c.loop-i.invariant.place, scoping_room c.loop-i.invariant c.loop-i-test.true))

pub overflow_mul-s : goal.overflow_mul-s
overflow_mul-s c = omega (arith, (rw (c.epilogue-epilogue.ensures.0, c.epilogue-epilogue.ensures.1) at c.scope_of-s.ensures.0), index_low c.args.self.now.function.epilogues.now c.args.self.now.function.codes.now c.args.self.now.function.parts c.loop-i.i, c.args.self.now.whole.small)

pub overflow_add-start : goal.overflow_add-start
overflow_add-start c = omega (arith, (rw (c.epilogue-epilogue.ensures.0, c.epilogue-epilogue.ensures.1) at c.scope_of-s.ensures.0), index_low c.args.self.now.function.epilogues.now c.args.self.now.function.codes.now c.args.self.now.function.parts c.loop-i.i, c.args.self.now.whole.small, (rw (c.epilogue-epilogue.ensures.0, c.epilogue-epilogue.ensures.1) at c.start.ensures), c.args.self.now.whole.started.starts c.loop-i.i c.loop-i.invariant.sum.low c.loop-i-test.true)

pub le-q-requires : goal.le-q-requires
le-q-requires c = scoping_room c.loop-i.invariant c.loop-i-test.true

pub loop-i-smaller : goal.loop-i-smaller
loop-i-smaller c = omega (arith, c.loop-i-test.true)

pub loop-i-preserved : goal.loop-i-preserved
loop-i-preserved c = scoping_turn c.loop-i.invariant c.loop-i-test.true c.args.self.now.whole.started (omega (arith, index_low c.args.self.now.function.epilogues.now c.args.self.now.function.codes.now c.args.self.now.function.parts c.loop-i.i, c.args.self.now.whole.small)) (rw (c.epilogue-epilogue.ensures.0, c.epilogue-epilogue.ensures.1) at c.scope_of-s.ensures) (rw (rw (c.epilogue-epilogue.ensures.0, c.epilogue-epilogue.ensures.1) at c.start.ensures) at c.le-q.ensures)

pub shape_of-out : goal.shape_of-out
shape_of-out c = c.loop-i.invariant.left.kept

pub returns : goal.returns
returns c = scoping_ended c.loop-i.invariant (omega (arith, c.loop-i-test.false))
