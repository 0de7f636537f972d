-- `Operations::register_row_at` meets its contract.
use mathlib.Core.Path.{sym, ap, ◌∙◌}
use Rattle.std.specs.Prelude.{Some}
use Rattle.format.specs.declared.Row.{Row}
use Rattle.format.specs.declared.Operation.TheVariants.{Does}
use Rattle.operations.proofs.OperandLaws.{register_row_none, register_row_some}
use Rattle.operations.proofs.Operations.register_row_at.Goals as goal

pub returns-in_err-reg : goal.returns-in_err-reg
returns-in_err-reg g c = λ of says. c.from_residual.ensures ∙ sym (register_row_none c.args.self.now.bytes.now c.args.at of (sym c.in_err-reg.ensures))

pub returns : goal.returns
returns g c = λ of says.
    ap (λ (v : Row). Some (Does v, c.in_ok-reg.past)) (says _ _ c.made.ensures)
    ∙ sym (register_row_some c.args.self.now.bytes.now c.args.at (sym c.in_ok-reg.ensures) of)
