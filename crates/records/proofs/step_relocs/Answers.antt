-- `records::step_relocs` meets its contract.
use mathlib.Core.Path.{refl, ap, ◌∙◌}
use native.Mathlib.Omega.{arith}
use Rattle.format.specs.Records.{pair_for}
use Rattle.records.proofs.RowLoops.{offset_of, row_at_ready}
use Rattle.records.proofs.LabelLaws.{step_is}
use Rattle.records.proofs.StepLoops.{start, room, turn, ended}
use Rattle.records.proofs.step_relocs.Goals as goal

pub loop-k-init : goal.loop-k-init
loop-k-init c = (start c.requires.0 c.requires.2, refl)

pub offset_at-to-requires : goal.offset_at-to-requires
offset_at-to-requires c = (row_at_ready c.requires.0 c.loop-k.invariant.0.going c.loop-k-test.true).inside

pub overflow_sub-to : goal.overflow_sub-to
overflow_sub-to c = omega (arith, (row_at_ready c.requires.0 c.loop-k.invariant.0.going c.loop-k-test.true).forward, offset_of c.args.run.now.rows.now c.loop-k.k, c.offset_at-to.ensures)

pub relaxed_advance-q-requires : goal.relaxed_advance-q-requires
relaxed_advance-q-requires c =
    let i = c.loop-k.invariant.0 in (
      omega (arith, i.near, c.requires.1, c.requires.0.few, i.going.low, c.loop-k-test.true),
      rw (step_is c.loop-k.p c.loop-k.from c.offset_at-to.result _ c.step_form.ensures (c.step-pair.ensures.found ∙ ap (pair_for c.loop-k.from c.offset_at-to.result) c.loop-k.invariant.1)) (room i c.loop-k-test.true c.offset_at-to.ensures),
    )

pub stepped_row_size-requires : goal.stepped_row_size-requires
stepped_row_size-requires c = row_at_ready c.requires.0 c.loop-k.invariant.0.going c.loop-k-test.true

pub overflow_add-p : goal.overflow_add-p
overflow_add-p c = omega (arith, c.loop-k.invariant.0.near, c.requires.1, c.requires.0.few, c.loop-k.invariant.0.going.low, c.loop-k-test.true, c.stepped_row_size.ensures.1)

pub loop-k-preserved : goal.loop-k-preserved
loop-k-preserved c =
    let e = step_is c.loop-k.p c.loop-k.from c.offset_at-to.result _ c.step_form.ensures (c.step-pair.ensures.found ∙ ap (pair_for c.loop-k.from c.offset_at-to.result) c.loop-k.invariant.1) in
    (turn c.loop-k.invariant.0 c.loop-k-test.true c.offset_at-to.ensures c.requires.0 (rw e at c.relaxed_advance-q.ensures) c.stepped_row_size.ensures.0, c.step-pair.ensures.same ∙ c.loop-k.invariant.1)

pub returns : goal.returns
returns c = ended c.loop-k.invariant.0 c.loop-k-test.false
