-- `dwarf::Lines::steps_ok` meets its contract.
use mathlib.Core.Bool.{not}
use mathlib.Core.Path.{ap}
use Rattle.dwarf.proofs.Rows.{start, turn, back, far, ended, too_far, near_enough}
use Rattle.dwarf.proofs.Lines.steps_ok.Goals as goal

pub loop-i-init : goal.loop-i-init
loop-i-init c = start _ _ _

pub returns-then-to-from : goal.returns-then-to-from
returns-then-to-from c = back c.loop-i.invariant c.loop-i-test.true c.offset_at-to.ensures c.if-to-from.true

pub returns-then-not-step_ok : goal.returns-then-not-step_ok
returns-then-not-step_ok c = far c.loop-i.invariant c.loop-i-test.true c.offset_at-to.ensures c.if-to-from.false (too_far c.step_ok.ensures (ap not c.if-not-step_ok.true))

pub loop-i-preserved : goal.loop-i-preserved
loop-i-preserved c = turn c.loop-i.invariant c.loop-i-test.true c.offset_at-to.ensures c.if-to-from.false (near_enough c.step_ok.ensures (ap not c.if-not-step_ok.false))

pub returns : goal.returns
returns c = ended c.loop-i.invariant c.loop-i-test.false
