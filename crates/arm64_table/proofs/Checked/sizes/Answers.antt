-- `Checked::sizes` meets its contract.
use native.Mathlib.Omega.{arith}
use Rattle.arm64_table.proofs.Loops.{summing, summed, info_sum, relocs_sum}
use Rattle.arm64_table.proofs.Checked.sizes.Goals as goal

pub loop-k-init : goal.loop-k-init
loop-k-init c = summing _ _

pub info_size-size-requires : goal.info_size-size-requires
info_size-size-requires c = c.args.self.now.fine.each_one _ c.loop-k-test.true

pub overflow_add-info : goal.overflow_add-info
overflow_add-info c = omega (arith, c.args.self.now.fine.most, c.loop-k.invariant.small, c.loop-k-test.true, c.info_size-size.ensures.1)

pub overflow_add-relocations : goal.overflow_add-relocations
overflow_add-relocations c = omega (arith, c.args.self.now.fine.most, c.loop-k.invariant.few, c.loop-k-test.true, c.row_relocs-relocations.ensures.1)

pub loop-k-preserved : goal.loop-k-preserved
loop-k-preserved c = summed c.loop-k.invariant c.loop-k-test.true c.info_size-size.ensures.0 c.info_size-size.ensures.1 c.row_relocs-relocations.ensures.0 c.row_relocs-relocations.ensures.1

pub returns : goal.returns
returns c = (info_sum c.loop-k.invariant c.loop-k-test.false, relocs_sum c.loop-k.invariant c.loop-k-test.false, omega (arith, c.args.self.now.fine.most, c.loop-k.invariant.few, c.loop-k.invariant.infos.high))
