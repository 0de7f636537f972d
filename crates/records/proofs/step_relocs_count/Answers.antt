-- `records::step_relocs_count` meets its contract.
use mathlib.Core.Path.{refl, ap, ◌∙◌}
use native.Mathlib.Omega.{arith}
use Rattle.format.specs.Records.{pair_for}
use Rattle.records.specs.Written.{pairs_of}
use Rattle.records.proofs.LabelLaws.{pairs_counted}
use Rattle.records.proofs.StepLoops.{tally_most, start_tally, turn_tally, ended_tally}
use Rattle.records.proofs.step_relocs_count.Goals as goal

pub loop-k-init : goal.loop-k-init
loop-k-init c = (start_tally _ _ _ _, refl)

pub offset_at-to-requires : goal.offset_at-to-requires
offset_at-to-requires c = omega (arith, c.args.run.now.ready.inside, c.loop-k-test.true)

pub overflow_add-size : goal.overflow_add-size
overflow_add-size c =
    let e = c.relaxed_advance_count-size.ensures.0 ∙ pairs_counted c.loop-k.from c.offset_at-to.result _ (c.step-pair.ensures.found ∙ ap (pair_for c.loop-k.from c.offset_at-to.result) c.loop-k.invariant.1) in
    omega (arith, (turn_tally c.loop-k.invariant.0 c.loop-k-test.true c.offset_at-to.ensures e).left, tally_most 0 0 0 c.args.run.now.rows.now c.args.run.now.at c.args.run.now.n (pairs_of c.args.pairs), c.requires)

pub loop-k-preserved : goal.loop-k-preserved
loop-k-preserved c =
    let e = c.relaxed_advance_count-size.ensures.0 ∙ pairs_counted c.loop-k.from c.offset_at-to.result _ (c.step-pair.ensures.found ∙ ap (pair_for c.loop-k.from c.offset_at-to.result) c.loop-k.invariant.1) in
    (turn_tally c.loop-k.invariant.0 c.loop-k-test.true c.offset_at-to.ensures e, c.step-pair.ensures.same ∙ c.loop-k.invariant.1)

pub returns : goal.returns
returns c = ended_tally c.loop-k.invariant.0 c.loop-k-test.false
