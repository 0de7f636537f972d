-- `walk::slot` meets its contract.
use Rattle.walk.proofs.Files.{slots_get}
use Rattle.walk.proofs.slot.Goals as goal

pub returns : goal.returns
returns c = rw (c.flatten.ensures, c.copied.ensures) (slots_get c.args.registers.now c.args.reg _ c.get.ensures.lookup)
