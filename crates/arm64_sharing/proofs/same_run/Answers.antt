-- `arm64_sharing::same_run` meets its contract.
use mathlib.Core.Path.{◌∙◌}
use borrow.Author.Tests.{ne_eqb}
use Rattle.arm64_sharing.proofs.Comparing.{counts_differ, counts_equal}
use Rattle.arm64_sharing.proofs.same_run.Goals as goal

pub returns-then-run-other : goal.returns-then-run-other
returns-then-run-other c = c.leads_long.ensures ∙ counts_equal c.args.run.now.list.now c.args.other.now.list.now c.args.run.now.run c.args.other.now.run c.if-run-other.true

pub returns-else-run-other : goal.returns-else-run-other
returns-else-run-other c = ne_eqb _ _ c.if-run-other.false ∙ counts_differ c.args.run.now.list.now c.args.other.now.list.now c.args.run.now.run c.args.other.now.run c.if-run-other.false
