-- `parts::operation::first` meets its contract.
use mathlib.Core.Path.{sym, ◌∙◌}
use native.Mathlib.Omega.{arith}
use Rattle.operations.specs.Positions.{from}
use Rattle.operations.proofs.OperationLaws.{operation_ahead}
use Rattle.parts.proofs.Operated.{answered, operation_from_lem}
use Rattle.parts.proofs.operation.first.Goals as goal

pub returns-in_default : goal.returns-in_default
unfolding answered
returns-in_default c = rw (operation_from_lem _ _ _, sym c.operation.ensures ∙ c.in_default.is) (rw c.from-opcode.ensures at c.refused.ensures)

pub overflow_add-at : goal.overflow_add-at
overflow_add-at c = omega (arith, (operation_ahead c.args.word c.args.bytes.now (from 0) (sym c.operation.ensures ∙ c.in-Some.is)).1)

pub returns : goal.returns
unfolding answered
returns c = rw (operation_from_lem _ _ _, sym c.operation.ensures ∙ c.in-Some.is) (rw c.from-opcode.ensures at c.numbers_of.ensures)
