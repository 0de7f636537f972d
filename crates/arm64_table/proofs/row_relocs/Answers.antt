-- `arm64_table::row_relocs` meets its contract.
use mathlib.Core.Path.{sym}
use native.Mathlib.Omega.{arith}
use Rattle.arm64_table.specs.Tables.{reloc_count}
use Rattle.format.proofs.Choice.{if-eq, if-ne}
use Rattle.arm64_table.proofs.row_relocs.Goals as goal

pub returns-then-size-eq0 : goal.returns-then-size-eq0
unfolding reloc_count
returns-then-size-eq0 c = (sym (if-eq _ 0 1 2 c.if-size-eq0.true), omega arith)

pub returns : goal.returns
unfolding reloc_count
returns c = (sym (if-ne _ 0 1 2 c.if-size-eq0.false), omega arith)
