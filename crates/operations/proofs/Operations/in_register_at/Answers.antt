-- `Operations::in_register_at` meets its contract.
use mathlib.Core.Path.{sym, ◌∙◌}
use Rattle.operations.proofs.OperandLaws.{in_register_unnamed, in_register_none, in_register_some}
use Rattle.operations.proofs.Operations.in_register_at.Goals as goal

pub returns-in_err-reg : goal.returns-in_err-reg
returns-in_err-reg c =
    let a = c.args in
    c.from_residual.ensures ∙ sym (in_register_unnamed a.self.now.bytes.now a.at (sym c.in_err-reg.ensures))

pub returns-in_err-other : goal.returns-in_err-other
returns-in_err-other c =
    let a = c.args in
    c.from_residual-in_err-other.ensures ∙ sym (in_register_none a.self.now.bytes.now a.at (sym c.in_ok-reg.ensures) (sym c.in_err-other.ensures))

pub returns : goal.returns
returns c =
    let a = c.args in
    sym (in_register_some a.self.now.bytes.now a.at (sym c.in_ok-reg.ensures) (sym c.in_ok-other.ensures))
