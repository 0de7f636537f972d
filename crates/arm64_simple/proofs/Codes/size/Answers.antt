-- `Codes::size` meets its contract.
use Rattle.std.proofs.Common.{arith}
use lib.ListN.{length}
use mathlib.Core.Path.{ap, ◌∙◌}
use Rattle.arm64_simple.specs.Steps.{steps_left}
use Rattle.arm64_simple.proofs.Loops.{sizing_start, sizing_turn, sizing_ended}
use Rattle.arm64_simple.proofs.Codes.size.Goals as goal

pub loop-s-init : goal.loop-s-init
loop-s-init c = sizing_start c.args.self.now.list.now c.args.self.now.run (ap steps_left c.into_iter-s-iterator.ensures.into_iter_gives ∙ c.steps-s-items.ensures)

pub overflow_add-size : goal.overflow_add-size
overflow_add-size c = omega (arith, c.loop-s.invariant.few, ap length c.in-Some.ensures.steps, c.code_size-size.ensures.2, c.args.self.now.inside.low)

pub loop-s-preserved : goal.loop-s-preserved
loop-s-preserved c = sizing_turn c.loop-s.invariant c.in-Some.ensures.steps c.code_size-size.ensures.0 c.code_size-size.ensures.2

pub returns : goal.returns
returns c = sizing_ended c.loop-s.invariant c.in-None.ensures.steps.0
