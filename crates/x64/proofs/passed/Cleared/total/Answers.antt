-- `passed::Cleared::total` meets its contract.
use Rattle.x64.proofs.Results.{summing, summed, all_summed}
use Rattle.x64.proofs.Infos.{info_few}
use lib.ListN.{length}
use native.Mathlib.Omega.{arith}
use mathlib.Core.Path.{ap, ◌∙◌}
use Rattle.x64.proofs.passed.Cleared.total.Goals as goal

pub loop-k-init : goal.loop-k-init
loop-k-init c = summing _ _

pub overflow_add-sum : goal.overflow_add-sum
overflow_add-sum c =
    let g = c.loop-k.invariant in
    omega (arith, g.small, c.loop-k-test.true, c.info_size-sum.ensures, info_few _ _ c.passed.result.passed, c.args.self.now.input.listed.most)

pub loop-k-preserved : goal.loop-k-preserved
loop-k-preserved c =
    summed c.loop-k.invariant c.loop-k-test.true (c.info_size-sum.ensures ∙ ap length c.passed.ensures) (omega (arith, c.info_size-sum.ensures, info_few _ _ c.passed.result.passed))

pub returns : goal.returns
returns c = all_summed c.loop-k.invariant c.loop-k-test.false
