-- `prologue::prologue_end` meets its contract.
use mathlib.Core.Path.{sym, ◌∙◌}
use native.Mathlib.Omega.{arith}
use Rattle.format.specs.Lists.{count, row_stride, row_at}
use Rattle.format.proofs.Choice.{if-le, if-gt}
use Rattle.prologue.specs.Pieces.{end_in}
use Rattle.prologue.proofs.prologue_end.Goals as goal

pub returns-then-n-eq0 : goal.returns-then-n-eq0
unfolding end_in
returns-then-n-eq0 c = sym (if-le (count row_stride c.args.rows.now) 0 0 _ (omega arith))

pub returns : goal.returns
unfolding end_in row_at
returns c = c.offset_at.ensures ∙ sym (if-gt (count row_stride c.args.rows.now) 0 0 _ (omega arith))
