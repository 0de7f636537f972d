-- `given::Registers::frame_code` meets its contract.
use Rattle.format.specs.declared.Seh.TheVariants.{Frame}
use lib.IntN.{pos}
use Rattle.prologue.proofs.Registers.{code_none, code_some}
use Rattle.prologue.proofs.given.Registers.frame_code.Goals as goal

pub returns-in_err-n : goal.returns-in_err-n
returns-in_err-n c = rw c.from_residual.ensures (code_none c.args.self.now.machine.now c.args.off c.args.self.now.machine.now.frame (λ x. Frame x.number (pos 0)) c.register.ensures c.in_err-n.was)

pub returns : goal.returns
returns c = code_some c.args.self.now.machine.now c.args.off c.args.self.now.machine.now.frame (λ x. Frame x.number (pos 0)) c.register.ensures c.in_ok-n.was
