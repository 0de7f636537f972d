-- `given::FunctionRows::third` meets its contract.
use mathlib.Core.Path.{sym, ◌∙◌}
use native.Mathlib.Omega.{arith}
use Rattle.prologue.proofs.Neighbours.{joined_above, not_third, is_third}
use Rattle.prologue.proofs.given.FunctionRows.third.Goals as goal

pub overflow_sub-i : goal.overflow_sub-i
overflow_sub-i c = omega (arith, joined_above _ 0 c.args.i (sym c.joined.ensures ∙ c.if-joined.true))

pub returns-then-joined : goal.returns-then-joined
returns-then-joined c = c.joined-then-joined.ensures ∙ sym (is_third _ 0 c.args.i (sym c.joined.ensures ∙ c.if-joined.true))

pub returns-else-joined : goal.returns-else-joined
returns-else-joined c = c.if-joined.false ∙ sym (not_third _ 0 c.args.i (sym c.joined.ensures ∙ c.if-joined.false))
