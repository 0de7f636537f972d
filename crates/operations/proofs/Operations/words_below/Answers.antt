-- `Operations::words_below` meets its contract.
use mathlib.Core.Path.{◌∙◌}
use Rattle.operations.proofs.Products.{below_none, below_over, below_held}
use Rattle.operations.proofs.Operations.words_below.Goals as goal

pub returns-in_err-n : goal.returns-in_err-n
returns-in_err-n c = c.from_residual.ensures ∙ below_none c.args.self.now.word c.args.v c.args.past c.in_err-n.ensures

pub returns-in_err-checked_sub_unsigned : goal.returns-in_err-checked_sub_unsigned
returns-in_err-checked_sub_unsigned c =
    c.from_residual-in_err-checked_sub_unsigned.ensures
    ∙ below_over c.args.self.now.word c.args.v c.args.past c.in_ok-n.ensures.1 c.in_err-checked_sub_unsigned.ensures

pub returns : goal.returns
returns c = below_held c.args.self.now.word c.args.v c.args.past c.in_ok-n.ensures.1 c.in_ok-checked_sub_unsigned.field-0 c.in_ok-checked_sub_unsigned.ensures
