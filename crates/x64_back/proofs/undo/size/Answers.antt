-- `x64_back::undo::size` meets its contract.
use mathlib.Core.Path.{◌∙◌}
use mir.Facts.{to_z-of_z}
use Rattle.codes.proofs.Sizes.{converted}
use Rattle.x64_back.proofs.undo.size.Goals as goal

pub returns : goal.returns
returns c = c.unwrap_or.ensures ∙ converted c.args.z c.try_from.result c.ranges.z.sfits (rw (to_z-of_z c.ranges.z) at c.try_from.ensures)
