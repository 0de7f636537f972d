-- `Epilogue::start_ok` meets its contract.
use native.Mathlib.Omega.{arith}
use Rattle.arm64_function.specs.Own.{start_ok_at}
use Rattle.arm64_function.proofs.Epilogue.start_ok.Goals as goal

pub returns-then-start-ne0 : goal.returns-then-start-ne0
unfolding start_ok_at
returns-then-start-ne0 c = grind (arith, c.start-start.ensures, c.if-start-ne0.true)

pub returns : goal.returns
unfolding start_ok_at
returns c = grind (arith, c.start-start.ensures, c.if-start-ne0.false)
