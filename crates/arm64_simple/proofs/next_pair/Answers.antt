-- `arm64_simple::next_pair` meets its contract.
use mathlib.Core.Path.{sym, ◌∙◌}
use native.Mathlib.Omega.{arith}
use Rattle.arm64_simple.proofs.OneCode.{next_low, next_there, next_none}
use Rattle.arm64_simple.proofs.next_pair.Goals as goal

pub overflow_add-b : goal.overflow_add-b
overflow_add-b c = omega (arith, (next_low c.args.b (sym c.has_next.ensures ∙ c.if-has_next.true)).0)

pub overflow_add-b-then-has_next : goal.overflow_add-b-then-has_next
overflow_add-b-then-has_next c = omega (arith, (next_low c.args.b (sym c.has_next.ensures ∙ c.if-has_next.true)).1)

pub returns-then-has_next : goal.returns-then-has_next
returns-then-has_next c = c.new.ensures ∙ next_there c.args.b (sym c.has_next.ensures ∙ c.if-has_next.true)

pub returns : goal.returns
returns c = c.new-2.ensures ∙ next_none c.args.b (sym c.has_next.ensures ∙ c.if-has_next.false)
