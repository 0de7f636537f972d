-- `arm64_sharing::leads` meets its contract.
use mathlib.Core.Path.{◌∙◌}
use borrow.Author.Tests.{lt-leb}
use Rattle.arm64_sharing.proofs.Comparing.{longer}
use Rattle.arm64_sharing.proofs.leads.Goals as goal

pub returns-else-run-other : goal.returns-else-run-other
returns-else-run-other c = lt-leb _ _ c.if-run-other.false ∙ longer c.args.run.now.list.now c.args.other.now.list.now c.args.run.now.run c.args.other.now.run c.if-run-other.false
