-- `walk::looked_up` meets its contract.
use Rattle.walk.proofs.Leaves.{up_by}
use Rattle.walk.specs.Walk.{looked_up}
use Rattle.walk.proofs.looked_up.Goals as goal

pub returns-then-exact : goal.returns-then-exact
unfolding looked_up
returns-then-exact c = rw c.if-exact.true

pub returns-else-exact : goal.returns-else-exact
returns-else-exact c = up_by _ _ c.if-exact.false c.checked_sub.ensures
