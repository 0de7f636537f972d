-- `arm64_function::prologue_at` meets its contract.
use mathlib.Core.Path.{refl}
use Rattle.arm64_function.specs.Own.{prologue_at}
use Rattle.arm64_function.proofs.prologue_at.Goals as goal

pub returns : goal.returns
unfolding prologue_at
returns c = rw (c.number.ensures, c.number-2.ensures) refl
