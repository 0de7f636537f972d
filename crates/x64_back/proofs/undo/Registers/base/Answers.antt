-- `x64_back::undo::Registers::base` meets its contract.
use Rattle.format.specs.Prelude.{pick}
use Rattle.x64_back.specs.Thread.{base_by}
use Rattle.x64_back.proofs.Exits.{subtracted}
use Rattle.x64_back.proofs.undo.Registers.base.Goals as goal

pub returns-then-not-framed : goal.returns-then-not-framed
unfolding base_by pick
returns-then-not-framed c = rw c.if-not-framed.true

pub returns : goal.returns
unfolding base_by pick
returns c = rw (c.if-not-framed.false, ← c.from.ensures, ← c.from-register.ensures) (subtracted _ _ _ c.checked_sub.ensures)
