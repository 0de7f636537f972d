-- `prologue::stepped` meets its contract.
use mir.Facts.{to_z-of_z}
use Rattle.prologue.specs.Groups.{stepped}
use Rattle.prologue.proofs.stepped.Goals as goal

pub returns-then-w : goal.returns-then-w
unfolding stepped
returns-then-w c = rw (to_z-of_z c.ranges.below, c.counted.ensures, c.if-w.true)

pub returns-else-w : goal.returns-else-w
unfolding stepped
returns-else-w c = rw (to_z-of_z c.ranges.below, c.counted.ensures, c.if-w.false)
