-- `given::FunctionRows::joined` meets its contract.
use mathlib.Core.Path.{sym, ◌∙◌}
use borrow.Author.Tests.{le-ltb}
use Rattle.prologue.proofs.Neighbours.{joined_first, reads_joined}
use Rattle.prologue.proofs.given.FunctionRows.joined.Goals as goal

pub returns-then-i-gt0 : goal.returns-then-i-gt0
returns-then-i-gt0 c = reads_joined _ 0 c.args.i c.if-i-gt0.true c.offset_at.ensures c.offset_at-then-i-gt0.ensures

pub returns-else-i-gt0 : goal.returns-else-i-gt0
returns-else-i-gt0 c = le-ltb 0 c.args.i c.if-i-gt0.false ∙ sym (joined_first _ 0 c.args.i c.if-i-gt0.false)
