-- `given::Records::start` meets its contract.
use mir.Facts.{to_z_pos}
use mir.Syntax.{w64}
use native.Mathlib.Omega.{arith}
use Rattle.x64.specs.Sources.{pushed_by}
use Rattle.x64.proofs.given.Records.start.Goals as goal

pub overflow_cast-result : goal.overflow_cast-result
overflow_cast-result c = omega (arith, c.in-ByRows.m.pushed)

pub returns-in-Codes : goal.returns-in-Codes
unfolding pushed_by
returns-in-Codes c = rw c.in-Codes.is

pub returns-in-ByRows : goal.returns-in-ByRows
unfolding pushed_by
returns-in-ByRows c = rw (to_z_pos w64 {n = c.in-ByRows.m.machine.now.pushed} (omega (arith, c.in-ByRows.m.pushed)), c.in-ByRows.is)
