-- `given::Registers::knows` meets its contract.
use mathlib.Core.Path.{◌∙◌}
use Rattle.format.specs.Machine.{register_of}
use Rattle.format.specs.X64.{low16}
use Rattle.prologue.specs.Groups.{knows}
use Rattle.prologue.proofs.Registers.{found_some}
use Rattle.prologue.proofs.given.Registers.knows.Goals as goal

pub returns : goal.returns
unfolding knows
returns c = c.is_some.ensures ∙ rw c.register.ensures (found_some (low16 (register_of c.args.self.now.machine.now c.args.reg)))
