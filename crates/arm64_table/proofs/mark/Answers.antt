-- `arm64_table::mark` meets its contract.
use mathlib.Core.Path.{sym}
use Rattle.arm64.specs.Writer.{no_record}
use Rattle.arm64_table.specs.Tables.{mark_by}
use Rattle.format.proofs.Choice.{if-eq, if-ne}
use Rattle.arm64_table.proofs.mark.Goals as goal

pub returns-then-past-at : goal.returns-then-past-at
unfolding mark_by
returns-then-past-at c = sym (if-eq _ _ _ _ c.if-past-at.true)

pub returns : goal.returns
unfolding mark_by
returns c = sym (if-ne _ _ no_record _ c.if-past-at.false)
