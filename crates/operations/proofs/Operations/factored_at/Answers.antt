-- `Operations::factored_at` meets its contract.
use mathlib.Core.Path.{sym, ◌∙◌}
use Rattle.operations.proofs.OperandLaws.{factored_none, factored_held}
use Rattle.operations.proofs.Operations.factored_at.Goals as goal

pub returns-in_err-v : goal.returns-in_err-v
returns-in_err-v c = c.from_residual.ensures ∙ sym (factored_none c.args.self.now.bytes.now c.args.at (sym c.in_err-v.ensures) c.args.self.now.word)

pub returns : goal.returns
returns c = c.words_below.ensures ∙ sym (factored_held c.args.self.now.bytes.now c.args.at (sym c.in_ok-v.ensures) c.args.self.now.word)
