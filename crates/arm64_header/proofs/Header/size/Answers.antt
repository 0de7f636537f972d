-- `Header::size` meets its contract.
use Rattle.arm64_header.proofs.Forms.{long_size, short_size}
use mathlib.Core.Path.{sym, ◌∙◌}
use native.Mathlib.Omega.{arith}
use Rattle.arm64_header.proofs.Header.size.Goals as goal

pub returns-then-is_long : goal.returns-then-is_long
returns-then-is_long c = (sym (long_size _ _ _ _ (sym c.is_long.ensures ∙ c.if-is_long.true)), omega arith, omega arith)

pub returns-else-is_long : goal.returns-else-is_long
returns-else-is_long c = (sym (short_size _ _ _ _ (sym c.is_long.ensures ∙ c.if-is_long.false)), omega arith, omega arith)
