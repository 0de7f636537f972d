-- `Run::put` meets its contract.
use mathlib.Core.Path.{ap}
use Rattle.arm64_runs.specs.Left.{codes_left}
use Rattle.arm64_runs.proofs.Stores.{put_start, put_room, put_turn, put_ended}
use Rattle.arm64_runs.proofs.Run.put.Goals as goal

pub loop-c-init : goal.loop-c-init
loop-c-init c = put_start (ap codes_left c.into_iter-c-iterator.ensures.into_iter_gives) c.requires

pub put_code-i-requires : goal.put_code-i-requires
put_code-i-requires c = put_room _ c.loop-c.invariant c.in-Some.ensures.steps

pub loop-c-preserved : goal.loop-c-preserved
loop-c-preserved c = put_turn _ c.loop-c.invariant c.in-Some.ensures.steps c.put_code-i.ensures

pub returns : goal.returns
returns c = put_ended _ c.loop-c.invariant c.in-None.ensures.steps.0
