-- `Operations::register_at` meets its contract.
use mathlib.Core.Path.{sym, ◌∙◌}
use native.Mathlib.Omega.{arith}
use Rattle.operations.proofs.OperandLaws.{register_none, register_held, register_over}
use Rattle.operations.proofs.Products.{converted, refused}
use Rattle.operations.proofs.Operations.register_at.Goals as goal

pub returns-in_err-v : goal.returns-in_err-v
returns-in_err-v c = c.from_residual.ensures ∙ sym (register_none c.args.self.now.bytes.now c.args.at (sym c.in_err-v.ensures))

pub returns-in_err-ok : goal.returns-in_err-ok
returns-in_err-ok c =
    c.from_residual-in_err-ok.ensures
    ∙ sym (register_over c.args.self.now.bytes.now c.args.at (sym c.in_ok-v.ensures) (omega (arith, refused _ _ _ c.try_from.ensures c.in_err-ok.ensures.value)))

pub returns : goal.returns
returns c =
    let k = converted _ _ _ _ c.try_from.ensures c.in_ok-ok.ensures.value in
    rw k.1 (sym (register_held c.args.self.now.bytes.now c.args.at (sym c.in_ok-v.ensures) (omega (arith, k.0))))
