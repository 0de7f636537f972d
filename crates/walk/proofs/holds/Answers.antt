-- `walk::holds` meets its contract.
use mathlib.Core.Path.{◌∙◌}
use native.Mathlib.Omega.{arith}
use borrow.Author.Tests.{lt-leb}
use Rattle.walk.proofs.Holders.{holds_low, holds_is}
use Rattle.walk.proofs.holds.Goals as goal

pub returns-then-start-a : goal.returns-then-start-a
returns-then-start-a c = holds_is _ _ _ c.if-start-a.true

pub returns-else-start-a : goal.returns-else-start-a
returns-else-start-a c = lt-leb c.args.start c.args.a (omega (arith, c.if-start-a.false)) ∙ holds_low _ _ _ (omega (arith, c.if-start-a.false))
