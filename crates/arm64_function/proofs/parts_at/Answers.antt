-- `arm64_function::parts_at` meets its contract.
use mathlib.Core.Path.{refl}
use Rattle.arm64_function.specs.Own.{parts_at}
use Rattle.arm64_function.proofs.parts_at.Goals as goal

pub returns : goal.returns
unfolding parts_at
returns c = rw (c.prologue_at-prologue.ensures, c.number-first.ensures, c.number.ensures) refl
