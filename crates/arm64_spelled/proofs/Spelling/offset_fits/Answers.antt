-- `Spelling::offset_fits` meets its contract.
use native.Mathlib.Omega.{arith}
use Rattle.arm64_spelled.proofs.FitLaws.{offset_low, offset_odd, offset_even}
use Rattle.arm64_spelled.proofs.Spelling.offset_fits.Goals as goal

pub returns-then-offset-self : goal.returns-then-offset-self
returns-then-offset-self c = offset_low _ _ c.if-offset-self.true

pub returns-then-offset-self-ne0 : goal.returns-then-offset-self-ne0
returns-then-offset-self-ne0 c = offset_odd _ _ (omega arith) c.if-offset-self-ne0.true

pub returns : goal.returns
returns c = offset_even _ _ (omega arith) c.if-offset-self-ne0.false
