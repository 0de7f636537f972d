-- `given::X64Machine::framed` meets its contract.
use mathlib.Core.Path.{◌∙◌}
use native.Mathlib.Omega.{arith}
use Rattle.format.specs.X64.{is_push}
use Rattle.rows.proofs.Signs.{passed}
use Rattle.prologue.specs.Groups.{known, added}
use Rattle.prologue.proofs.given.X64Machine.framed.Goals as goal

pub returns : goal.returns
unfolding added is_push known
returns c = c.stepped.ensures ∙ rw (passed c.args.w.below (omega (arith, c.struct_told-1.given)), c.knows-known.ensures, c.registers.ensures)
