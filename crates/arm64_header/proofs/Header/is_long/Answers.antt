-- `Header::is_long` meets its contract.
use native.Mathlib.Omega.{arith}
use borrow.Author.Tests.{lt-ltb}
use mathlib.Core.Path.{◌∙◌}
use Rattle.arm64_header.proofs.Forms.{many_long, few_long}
use Rattle.arm64_header.proofs.Header.is_long.Goals as goal

pub returns-then-count-gt-SHORT_COUNT : goal.returns-then-count-gt-SHORT_COUNT
returns-then-count-gt-SHORT_COUNT c = lt-ltb _ _ c.if-count-gt-SHORT_COUNT.true ∙ many_long _ c.args.self.words (omega (arith, c.if-count-gt-SHORT_COUNT.true, c.count.ensures))

pub returns-else-count-gt-SHORT_COUNT : goal.returns-else-count-gt-SHORT_COUNT
returns-else-count-gt-SHORT_COUNT c = few_long _ c.args.self.words (omega (arith, c.if-count-gt-SHORT_COUNT.false, c.count.ensures))
