-- `arm64_sharing::leads_long` meets its contract.
use mathlib.Core.Path.{ap, ◌∙◌}
use native.Mathlib.Omega.{arith}
use Rattle.arm64_simple.specs.Steps.{steps_left}
use Rattle.arm64_simple.proofs.OneCode.{differing, agreeing}
use Rattle.arm64_sharing.proofs.Comparing.{agreeing_start, agreeing_low, agreeing_stopped}
use Rattle.arm64_sharing.proofs.Comparing.{agreeing_turn, agreeing_ended}
use Rattle.arm64_sharing.proofs.leads_long.Goals as goal

pub loop-s-init : goal.loop-s-init
loop-s-init c =
    let run = c.args.run.now in
    let other = c.args.other.now in
    agreeing_start run.list.now other.list.now run.run other.run
    (ap steps_left c.into_iter-s-iterator.ensures.into_iter_gives ∙ c.steps-s-items.ensures)

pub saved_at-requires : goal.saved_at-requires
saved_at-requires c = omega (arith, agreeing_low c.loop-s.invariant c.in-Some.ensures.steps, c.requires)

pub returns-then-ne : goal.returns-then-ne
returns-then-ne c =
    agreeing_stopped c.loop-s.invariant c.in-Some.ensures.steps c.requires
    c.saved_at.ensures c.simple.ensures (differing _ _ c.if-ne.ensures)

pub loop-s-preserved : goal.loop-s-preserved
loop-s-preserved c =
    agreeing_turn c.loop-s.invariant c.in-Some.ensures.steps c.requires
    c.saved_at.ensures c.simple.ensures (agreeing _ _ c.if-ne.ensures)

pub returns : goal.returns
returns c = agreeing_ended c.loop-s.invariant c.in-None.ensures.steps.0
