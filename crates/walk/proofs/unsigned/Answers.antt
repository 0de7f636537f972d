-- `walk::unsigned` meets its contract.
use Rattle.format.specs.Prelude.{pick}
use Rattle.walk.specs.Walk.{unsigned}
use Rattle.walk.proofs.unsigned.Goals as goal

pub returns-then-signing : goal.returns-then-signing
unfolding unsigned pick
returns-then-signing c = rw c.if-signing.true

pub returns-else-signing : goal.returns-else-signing
unfolding unsigned pick
returns-else-signing c = rw c.if-signing.false
