-- `Spelling::register_fits` meets its contract.
use native.Mathlib.Omega.{arith}
use Rattle.arm64_spelled.proofs.FitLaws.{register_free, register_low, register_high, register_even}
use Rattle.arm64_spelled.proofs.Spelling.register_fits.Goals as goal

pub returns-then-self-eq0 : goal.returns-then-self-eq0
returns-then-self-eq0 c = register_free _ _ c.if-self-eq0.true

pub returns-then-register-self : goal.returns-then-register-self
returns-then-register-self c = register_low _ _ (omega arith) (omega arith)

pub returns-then-from-register : goal.returns-then-from-register
returns-then-from-register c = register_high _ _ (omega arith) (omega arith) (omega (arith, c.from.ensures, c.kind_of.ensures.1, c.if-from-register.true))

pub returns : goal.returns
returns c = register_even _ _ (omega arith) (omega arith) (omega (arith, c.from.ensures, c.kind_of.ensures.1, c.if-from-register.false))
