-- `given::Span::codes_summary` meets its contract.
use mathlib.Core.Path.{ap, ◌∙◌}
use native.Mathlib.Omega.{arith}
use lib.ListN.{length}
use Rattle.codes.proofs.Sizes.{code_few}
use lib.IntN.{pos}
use Rattle.x64.specs.Listed.{records_in}
use Rattle.x64.specs.Sources.{pushed_by}
use Rattle.x64.specs.Given.{codes_left}
use Rattle.x64.proofs.Walks.{codes_few, summing, summed_on, all_summed}
use Rattle.x64.proofs.given.Span.codes_summary.Goals as goal

pub loop-c-init : goal.loop-c-init
loop-c-init c =
    let e = ap codes_left c.into_iter-c-iterator.ensures.into_iter_gives ∙ c.codes-c-items.ensures in
    (summing e, omega (arith, ap length e, codes_few c.args.self.now.records (pos (pushed_by c.args.self.now.records)) 0 (records_in c.args.self.now.records), c.args.self.now.few))

pub with-t-requires : goal.with-t-requires
with-t-requires c = omega (arith, c.loop-c.invariant.1)

pub loop-c-preserved : goal.loop-c-preserved
loop-c-preserved c =
    let e = c.with-t.ensures in
    (summed_on c.loop-c.invariant.0 c.in-Some.ensures.steps e, omega (arith, (code_few c.in-Some.c.offset c.in-Some.c.code).most, e.slots, ap length c.in-Some.ensures.steps, c.loop-c.invariant.1))

pub returns : goal.returns
returns c = all_summed c.loop-c.invariant.0 c.in-None.ensures.steps.0
