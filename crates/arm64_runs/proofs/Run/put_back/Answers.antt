-- `Run::put_back` meets its contract.
use native.Mathlib.Omega.{arith}
use mathlib.Core.Path.{ap}
use Rattle.arm64_runs.specs.Left.{codes_left}
use Rattle.arm64_runs.proofs.Stores.{back_start, back_room, back_turn, back_ended}
use Rattle.arm64_runs.proofs.Run.put_back.Goals as goal

pub loop-c-init : goal.loop-c-init
loop-c-init c = back_start (ap codes_left c.into_iter-c-iterator.ensures.into_iter_gives) c.requires.0 c.requires.1

pub overflow_sub-i : goal.overflow_sub-i
overflow_sub-i c = back_room c.loop-c.invariant c.in-Some.ensures.steps

pub put_code-requires : goal.put_code-requires
put_code-requires c = omega (arith, c.loop-c.invariant.room, back_room c.loop-c.invariant c.in-Some.ensures.steps)

pub loop-c-preserved : goal.loop-c-preserved
loop-c-preserved c = back_turn c.loop-c.invariant c.in-Some.ensures.steps c.put_code.ensures

pub returns : goal.returns
returns c = back_ended c.loop-c.invariant c.in-None.ensures.steps.0
