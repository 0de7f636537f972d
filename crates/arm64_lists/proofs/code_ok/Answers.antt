-- `arm64_lists::code_ok` meets its contract.
use native.Mathlib.Omega.{arith}
use lib.Dec.{eqb}
use Prim.Native.Nat.{ℕ}
use mathlib.Core.Path.{ap, ◌∙◌}
use Rattle.arm64_lists.proofs.Codes.{no_kind, both, offset_alone, register_there, add_fp, neither}
use Rattle.arm64.specs.Writer.{code_ok_at}
use Rattle.arm64_lists.proofs.code_ok.Goals as goal

pub returns-then-kind-gt-PAC_SIGN_LR : goal.returns-then-kind-gt-PAC_SIGN_LR
unfolding code_ok_at
returns-then-kind-gt-PAC_SIGN_LR c = no_kind _ _ _ (omega (arith, c.number-kind.ensures, c.if-kind-gt-PAC_SIGN_LR.true))

pub returns-then-kind-ge-REGP : goal.returns-then-kind-ge-REGP
unfolding code_ok_at
returns-then-kind-ge-REGP c = both _ _ _ (omega (arith, c.number-kind.ensures, c.if-kind-le-FREG_X.true)) (omega (arith, c.number-kind.ensures, c.if-kind-ge-REGP.true))

pub returns-then-kind-le-FREG_X : goal.returns-then-kind-le-FREG_X
unfolding code_ok_at
returns-then-kind-le-FREG_X c = ap (λ (n : ℕ). eqb n 0) c.number.ensures ∙ offset_alone _ _ _ (omega (arith, c.number-kind.ensures, c.if-kind-le-FREG_X.true)) (omega (arith, c.number-kind.ensures, c.if-kind-ge-REGP.false))

pub returns-then-number-ne0 : goal.returns-then-number-ne0
unfolding code_ok_at
returns-then-number-ne0 c = register_there _ _ _ (omega (arith, c.number-kind.ensures, c.if-kind-gt-PAC_SIGN_LR.false)) (omega (arith, c.number-kind.ensures, c.if-kind-le-FREG_X.false)) (λ e. c.if-number-ne0.true (c.number-2.ensures ∙ e))

pub returns-then-kind-eq-ADD_FP : goal.returns-then-kind-eq-ADD_FP
unfolding code_ok_at
returns-then-kind-eq-ADD_FP c = add_fp _ _ _ (omega (arith, c.number-kind.ensures, c.if-kind-gt-PAC_SIGN_LR.false)) (omega (arith, c.number-kind.ensures, c.if-kind-le-FREG_X.false)) (omega (arith, c.number-2.ensures, c.if-number-ne0.false)) (omega (arith, c.number-kind.ensures, c.if-kind-eq-ADD_FP.true))

pub returns : goal.returns
unfolding code_ok_at
returns c = ap (λ (n : ℕ). eqb n 0) c.number-3.ensures ∙ neither _ _ _ (omega (arith, c.number-kind.ensures, c.if-kind-gt-PAC_SIGN_LR.false)) (omega (arith, c.number-kind.ensures, c.if-kind-le-FREG_X.false)) (omega (arith, c.number-2.ensures, c.if-number-ne0.false)) (λ e. c.if-kind-eq-ADD_FP.false (c.number-kind.ensures ∙ e))
