-- `Functions::first_no` meets its contract.
use Rattle.std.proofs.lemmas.Result.{err_from_is_err_and}
use Rattle.format.specs.Coded.{numbered_at}
use mathlib.Core.Path.{sym, ap, ◌∙◌}
use Rattle.arm64_table.proofs.Loops.{asking, answered, stopped, all_answered}
use Rattle.arm64_table.proofs.Functions.first_no.Goals as goal

pub loop-k-init : goal.loop-k-init
loop-k-init c = asking _ _

pub function_asks-requires : goal.function_asks-requires
function_asks-requires c = c.args.self.now.listed.each_one _ c.loop-k-test.true

pub returns-in_err-function_asks : goal.returns-in_err-function_asks
returns-in_err-function_asks c = let p = err_from_is_err_and c.from_residual.result c.from_residual.ensures.1 in rw (p.1, p.2) (stopped c.loop-k.invariant c.loop-k-test.true (sym c.function_asks.ensures ∙ ap numbered_at c.in_err-function_asks.was))

pub loop-k-preserved : goal.loop-k-preserved
loop-k-preserved c = answered c.loop-k.invariant c.loop-k-test.true (sym c.function_asks.ensures ∙ ap numbered_at c.in_ok-function_asks.was)

pub returns : goal.returns
returns c = all_answered c.loop-k.invariant c.loop-k-test.false
