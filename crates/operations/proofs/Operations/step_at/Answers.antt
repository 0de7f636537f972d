-- `Operations::step_at` meets its contract.
use mathlib.Core.Path.{sym, ◌∙◌}
use Rattle.operations.proofs.OperandLaws.{step_none, step_some}
use Rattle.operations.proofs.Operations.step_at.Goals as goal

pub returns-in_err-v : goal.returns-in_err-v
returns-in_err-v c = c.from_residual.ensures ∙ sym (step_none c.args.self.now.bytes.now c.args.at c.args.n (sym c.in_err-v.ensures))

pub returns : goal.returns
returns c = sym (step_some c.args.self.now.bytes.now c.args.at c.args.n c.requires.0 (sym c.in_ok-v.ensures))
