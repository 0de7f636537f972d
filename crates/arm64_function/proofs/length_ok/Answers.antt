-- `arm64_function::length_ok` meets its contract.
use Rattle.arm64_function.specs.Own.{length_ok}
use Rattle.arm64.specs.Writer.{instructions}
use borrow.Author.Tests.{eq-eqb, ne_eqb}
use Prim.Native.Nat.{◌%◌}
use Rattle.arm64_function.proofs.length_ok.Goals as goal

pub returns-then-size-ne0 : goal.returns-then-size-ne0
unfolding length_ok
returns-then-size-ne0 c = simp (ne_eqb (c.args.size % 4) 0 c.if-size-ne0.true)

pub returns : goal.returns
unfolding length_ok instructions
returns c = simp (eq-eqb (c.args.size % 4) 0 c.if-size-ne0.false)
