-- `Operations::signed_at` meets its contract.
use mathlib.Core.Path.{sym, ◌∙◌}
use native.Mathlib.Omega.{arith}
use mir.Syntax.{w64}
use mir.Val.{SFits}
use mir.Facts.{to_z-of_z}
use Rattle.rows.proofs.Signs.{negative, positive}
use Rattle.operations.proofs.OperandLaws.{signed_none, signed_held}
use Rattle.operations.proofs.Products.{above_words, below_words}
use Rattle.operations.proofs.Operations.signed_at.Goals as goal

pub returns-in_err-z : goal.returns-in_err-z
returns-in_err-z c = c.from_residual.ensures ∙ sym (signed_none c.args.self.now.bytes.now c.args.at c.args.self.now.word (sym c.in_err-z.ensures))

pub returns-then-z-lt0 : goal.returns-then-z-lt0
returns-then-z-lt0 c =
    let f : SFits w64 c.in_ok-z.z = record { sfits = omega (arith, c.in_ok-z.known_told-1-own.given) } in
    let n = rw (to_z-of_z f) at c.unsigned_abs.ensures.value in
    let e = above_words c.args.self.now.word c.in_ok-z.z (negative c.in_ok-z.z f c.if-z-lt0.true) in
    (rw n at c.words_above.ensures) ∙ sym (rw e at (signed_held c.args.self.now.bytes.now c.args.at c.args.self.now.word (sym c.in_ok-z.ensures)))

pub returns : goal.returns
returns c =
    let f : SFits w64 c.in_ok-z.z = record { sfits = omega (arith, c.in_ok-z.known_told-1-own.given) } in
    let n = rw (to_z-of_z f) at c.unsigned_abs-2.ensures.value in
    let e = below_words c.in_ok-z.z (positive c.in_ok-z.z f c.if-z-lt0.false) in
    (rw (n, e) at c.words_below.ensures) ∙ sym (signed_held c.args.self.now.bytes.now c.args.at c.args.self.now.word (sym c.in_ok-z.ensures))
