-- `rows::step_as` meets its contract.
use borrow.Author.Rules.{rules}
use Rattle.format.specs.Rows.{step_in}
use Rattle.format.proofs.LebBack.{little-length}
use Rattle.rows.proofs.step_as.Goals as goal

pub step_behind-requires : goal.step_behind-requires
unfolding step_in
step_behind-requires c = let h = simp little-length at (rw c.in-OneByte.is at c.requires.1) in search rules

pub step_behind-requires-in-TwoBytes : goal.step_behind-requires-in-TwoBytes
unfolding step_in
step_behind-requires-in-TwoBytes c = let h = simp little-length at (rw c.in-TwoBytes.is at c.requires.1) in search rules

pub step_behind-requires-in-FourBytes : goal.step_behind-requires-in-FourBytes
unfolding step_in
step_behind-requires-in-FourBytes c = let h = simp little-length at (rw c.in-FourBytes.is at c.requires.1) in search rules
