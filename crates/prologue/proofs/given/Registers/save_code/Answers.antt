-- `given::Registers::save_code` meets its contract.
use Rattle.format.specs.declared.Seh.TheVariants.{Save}
use mir.Facts.{to_z-of_z}
use Rattle.prologue.proofs.Registers.{code_none, code_some}
use Rattle.prologue.proofs.given.Registers.save_code.Goals as goal

pub returns-in_err-n : goal.returns-in_err-n
returns-in_err-n c = rw c.from_residual.ensures (code_none c.args.self.now.machine.now c.args.off c.args.reg (λ x. Save x.number x.vector c.args.above) c.register.ensures c.in_err-n.was)

pub returns : goal.returns
returns c = rw (to_z-of_z c.ranges.above) (code_some c.args.self.now.machine.now c.args.off c.args.reg (λ x. Save x.number x.vector c.args.above) c.register.ensures c.in_ok-n.was)
