-- `Operations::operand_at` meets its contract.
use mathlib.Core.Path.{◌∙◌}
use native.Mathlib.Omega.{arith}
use Rattle.operations.proofs.OperandLaws.{operand_factored, operand_first, operand_second, operand_signed}
use Rattle.operations.proofs.Operations.operand_at.Goals as goal

pub returns-in-5 : goal.returns-in-5
returns-in-5 c = c.factored_at.ensures ∙ operand_factored c.args.self.now.word c.args.b c.args.self.now.bytes.now c.args.at c.in-5.is

pub returns-in-12 : goal.returns-in-12
returns-in-12 c = c.plain_at.ensures ∙ operand_first c.args.self.now.word c.args.b c.args.self.now.bytes.now c.args.at c.in-12.is

pub returns-in-14 : goal.returns-in-14
returns-in-14 c = c.plain_at-in-14.ensures ∙ operand_second c.args.self.now.word c.args.b c.args.self.now.bytes.now c.args.at c.in-14.is

pub returns-in_default : goal.returns-in_default
returns-in_default c = c.signed_at.ensures ∙ operand_signed c.args.self.now.word c.args.b c.args.self.now.bytes.now c.args.at (λ e. omega arith) (λ e. omega arith) (λ e. omega arith)
