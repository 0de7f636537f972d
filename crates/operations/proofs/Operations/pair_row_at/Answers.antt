-- `Operations::pair_row_at` meets its contract.
use mathlib.Core.Path.{sym, ◌∙◌}
use native.Mathlib.Omega.{arith}
use Rattle.rows.proofs.Signs.{passed}
use Rattle.operations.proofs.OperandLaws.{pair_unnamed, pair_none, pair_some}
use Rattle.operations.proofs.Operations.pair_row_at.Goals as goal

pub returns-in_err-reg : goal.returns-in_err-reg
returns-in_err-reg c = c.from_residual.ensures ∙ sym (pair_unnamed c.args.self.now.bytes.now c.args.at c.args.self.now.word c.args.b (sym c.in_err-reg.ensures))

pub returns-in_err-z : goal.returns-in_err-z
returns-in_err-z c = c.from_residual-in_err-z.ensures ∙ sym (pair_none c.args.self.now.bytes.now c.args.at (sym c.in_ok-reg.ensures) c.args.self.now.word c.args.b (sym c.in_err-z.ensures))

pub returns : goal.returns
returns c =
    let e = rw (passed c.in_ok-z.z (omega (arith, c.in_ok-z.known_told-in-Continue-branch-2-1-own.given))) at c.pair_row.ensures in
    rw e (sym (pair_some c.args.self.now.bytes.now c.args.at (sym c.in_ok-reg.ensures) c.args.self.now.word c.args.b (sym c.in_ok-z.ensures)))
