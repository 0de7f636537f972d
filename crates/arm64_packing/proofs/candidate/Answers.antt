-- `arm64_packing::candidate` meets its contract.
use mathlib.Core.Path.{ap, ◌∙◌}
use Rattle.arm64_simple.specs.Steps.{steps_left}
use Rattle.arm64_packing.proofs.Tallies.{tallying_start, tallying_low, tallying_down, tallying_turn, tallying_ended}
use Rattle.arm64_packing.proofs.candidate.Goals as goal

pub loop-s-init : goal.loop-s-init
loop-s-init c = tallying_start c.args.run.now.list.now c.args.size c.args.run.now.run (ap steps_left c.into_iter-s-iterator.ensures.into_iter_gives ∙ c.steps-s-items.ensures) c.requires.0

pub and-counts-requires : goal.and-counts-requires
and-counts-requires c = (tallying_low c.loop-s.invariant c.requires.1, tallying_down c.loop-s.invariant c.in-Some.ensures.steps c.resolved.ensures)

pub loop-s-preserved : goal.loop-s-preserved
loop-s-preserved c = tallying_turn c.loop-s.invariant c.in-Some.ensures.steps c.resolved.ensures c.and-counts.ensures.0 c.and-counts.ensures.1

pub returns : goal.returns
returns c = (tallying_ended c.loop-s.invariant c.as_fields.ensures.0 c.in-None.ensures.steps.0, c.as_fields.ensures.1, c.as_fields.ensures.2, c.as_fields.ensures.3)
