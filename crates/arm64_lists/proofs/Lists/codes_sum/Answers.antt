-- `Lists::codes_sum` meets its contract.
use native.Mathlib.Omega.{arith}
use mathlib.Core.Path.{◌∙◌, ap}
use native.Mathlib.Nat.{zero-add}
use Rattle.arm64_lists.specs.Sums.{up_to}
use Rattle.arm64.specs.Writer.{codes_in}
use Rattle.arm64_lists.proofs.Totals.{adding, add_turn, add_stopped, add_ended}
use Rattle.arm64_lists.proofs.Lists.codes_sum.Goals as goal

pub loop-k-init : goal.loop-k-init
loop-k-init c = adding (codes_in c.args.self.now.functions.now c.args.self.now.epilogues.now) 0 c.args.n 0 (omega arith)

pub add_function-requires : goal.add_function-requires
add_function-requires c = (rw (c.record.ensures.0, c.record.ensures.1) (c.requires.1 _ c.loop-k-test.true), c.loop-k.invariant.small)

pub returns-in_err-sum : goal.returns-in_err-sum
returns-in_err-sum c = c.from_residual.ensures ∙ add_stopped c.loop-k.invariant (omega (arith, c.loop-k-test.true)) (rw (c.record.ensures.0, c.record.ensures.1) at c.add_function.ensures) c.in_err-sum.was ∙ ap up_to (zero-add _)

pub loop-k-preserved : goal.loop-k-preserved
loop-k-preserved c = add_turn c.loop-k.invariant (omega (arith, c.loop-k-test.true)) (rw (c.record.ensures.0, c.record.ensures.1) at c.add_function.ensures) c.in_ok-sum.was

pub returns : goal.returns
returns c = add_ended c.loop-k.invariant (omega (arith, c.loop-k-test.false)) ∙ ap up_to (zero-add _)
