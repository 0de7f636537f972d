-- `Operations::plain_at` meets its contract.
use mathlib.Core.Path.{sym, ◌∙◌}
use Rattle.operations.proofs.OperandLaws.{plain_none, plain_held}
use Rattle.operations.proofs.Products.{to_signed, not_signed}
use Rattle.operations.proofs.Operations.plain_at.Goals as goal

pub returns-in_err-v : goal.returns-in_err-v
returns-in_err-v c = c.from_residual.ensures ∙ sym (plain_none c.args.self.now.bytes.now c.args.at (sym c.in_err-v.ensures))

pub returns-in_err-ok : goal.returns-in_err-ok
returns-in_err-ok c =
    c.from_residual-in_err-ok.ensures ∙ not_signed c.in_ok-v.v c.in_ok-v.past _ c.try_from.ensures c.in_err-ok.ensures.value
    ∙ sym (plain_held c.args.self.now.bytes.now c.args.at (sym c.in_ok-v.ensures))

pub returns : goal.returns
returns c =
    to_signed c.in_ok-v.v c.in_ok-v.past _ c.try_from.ensures c.in_ok-ok.field-0 c.in_ok-ok.ensures.value
    ∙ sym (plain_held c.args.self.now.bytes.now c.args.at (sym c.in_ok-v.ensures))
