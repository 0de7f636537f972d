-- `Operations::offset_row_at` meets its contract.
use mathlib.Core.Path.{sym, ◌∙◌}
use native.Mathlib.Omega.{arith}
use Rattle.rows.proofs.Signs.{passed}
use Rattle.operations.proofs.OperandLaws.{offset_row_none, offset_row_some}
use Rattle.operations.proofs.Operations.offset_row_at.Goals as goal

pub returns-in_err-z : goal.returns-in_err-z
returns-in_err-z c = c.from_residual.ensures ∙ sym (offset_row_none c.args.self.now.bytes.now c.args.at c.args.self.now.word c.args.b (sym c.in_err-z.ensures))

pub returns : goal.returns
returns c = rw (passed c.in_ok-z.z (omega (arith, c.in_ok-z.known_told-1-own.given))) (sym (offset_row_some c.args.self.now.bytes.now c.args.at c.args.self.now.word c.args.b (sym c.in_ok-z.ensures)))
