-- `Operations::saved_at` meets its contract.
use mathlib.Core.Path.{sym, ◌∙◌}
use native.Mathlib.Omega.{arith}
use Rattle.rows.proofs.Signs.{passed}
use Rattle.operations.proofs.OperandLaws.{saved_none, saved_some}
use Rattle.operations.proofs.Operations.saved_at.Goals as goal

pub returns-in_err-z : goal.returns-in_err-z
returns-in_err-z c = c.from_residual.ensures ∙ sym (saved_none c.args.self.now.bytes.now c.args.at c.args.self.now.word c.args.reg (sym c.in_err-z.ensures))

pub returns : goal.returns
returns c = rw (passed c.in_ok-z.z (omega (arith, c.in_ok-z.known_told-1-own.given))) (sym (saved_some c.args.self.now.bytes.now c.args.at c.args.self.now.word c.args.reg (sym c.in_ok-z.ensures)))
