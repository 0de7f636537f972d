-- `passed::Passed::frame_byte` meets its contract.
use mathlib.Core.Path.{ap, ◌∙◌}
use Rattle.codes.proofs.Questions.{said}
use Rattle.x64.specs.Given.{codes_left}
use Rattle.x64.proofs.Infos.{agreed}
use Rattle.x64.proofs.Walks.{framing, frame_asked, framed, all_framed}
use Rattle.x64.proofs.passed.Passed.frame_byte.Goals as goal

pub loop-c-init : goal.loop-c-init
loop-c-init c =
    let a = agreed _ _ c.args.self.now.passed in
    framing (ap codes_left c.into_iter-c-iterator.ensures.into_iter_gives ∙ c.codes-c-items.ensures) a.codes a.frames

pub frame_or-b-requires : goal.frame_or-b-requires
frame_or-b-requires c =
    let h = frame_asked c.loop-c.invariant c.in-Some.ensures.steps in
    ((said _ _ h.0).register, h.1)

pub loop-c-preserved : goal.loop-c-preserved
loop-c-preserved c = framed c.loop-c.invariant c.in-Some.ensures.steps c.frame_or-b.ensures

pub returns : goal.returns
returns c = all_framed c.loop-c.invariant c.in-None.ensures.steps.0
