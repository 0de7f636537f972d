-- `given::FunctionRows::joins` meets its contract.
use Rattle.prologue.specs.Given.{rows_in}
use mathlib.Core.Path.{sym, ◌∙◌}
use Prim.Native.Nat.{◌+◌}
use native.Mathlib.Omega.{arith}
use borrow.Author.Tests.{le-ltb}
use Rattle.prologue.proofs.Neighbours.{joins_last, reads_joins}
use Rattle.prologue.proofs.given.FunctionRows.joins.Goals as goal

pub returns-then-i-len : goal.returns-then-i-len
returns-then-i-len c = reads_joins _ (rows_in c.args.self.now) c.args.i (rw c.len.ensures at c.if-i-len.true) c.offset_at.ensures c.offset_at-then-i-len.ensures

pub returns-else-i-len : goal.returns-else-i-len
returns-else-i-len c = le-ltb (c.args.i + 1) c.len.result c.if-i-len.false ∙ sym (joins_last _ c.args.i (rows_in c.args.self.now) (omega (arith, c.len.ensures)))
