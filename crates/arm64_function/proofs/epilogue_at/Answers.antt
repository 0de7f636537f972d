-- `arm64_function::epilogue_at` meets its contract.
use mathlib.Core.Path.{refl}
use Rattle.arm64_function.specs.Own.{epilogue_at}
use Rattle.arm64_function.proofs.epilogue_at.Goals as goal

pub returns : goal.returns
unfolding epilogue_at
returns c = rw (c.number.ensures, c.number-2.ensures) refl
