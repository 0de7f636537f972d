-- `given::Span::slots` meets its contract.
use mathlib.Core.Path.{ap, ◌∙◌}
use native.Mathlib.Omega.{arith}
use lib.IntN.{pos}
use Rattle.format.specs.X64.{slots}
use Rattle.codes.proofs.Sizes.{slots_most}
use Rattle.x64.specs.Listed.{records_in}
use Rattle.x64.specs.Sources.{pushed_by}
use Rattle.x64.specs.Given.{codes_by, codes_left}
use Rattle.x64.proofs.Walks.{codes_few}
use Rattle.x64.proofs.given.Span.slots.Goals as goal

pub loop-c-init : goal.loop-c-init
loop-c-init c =
    let e = ap codes_left c.into_iter-c-iterator.ensures.into_iter_gives ∙ c.codes-c-items.ensures in
    omega (arith, ap slots e)

pub overflow_add-held : goal.overflow_add-held
unfolding slots
overflow_add-held c =
    let r = c.args.self.now.records in
    omega (
      arith,
      c.loop-c.invariant,
      ap slots c.in-Some.ensures.steps,
      c.nodes_size.ensures,
      slots_most (codes_by c.args.self.now),
      codes_few r (pos (pushed_by r)) 0 (records_in r),
      c.args.self.now.few,
    )

pub loop-c-preserved : goal.loop-c-preserved
unfolding slots
loop-c-preserved c = omega (arith, c.loop-c.invariant, ap slots c.in-Some.ensures.steps, c.nodes_size.ensures)

pub returns : goal.returns
unfolding slots
returns c = omega (arith, c.loop-c.invariant, ap slots c.in-None.ensures.steps.0)
