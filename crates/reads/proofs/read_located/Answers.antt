-- `reads::read_located` meets its contract.
use Rattle.std.proofs.Common.{◌∙◌}
use Rattle.reads.proofs.FromPlaces.{rules_located}
use Rattle.reads.proofs.read_located.Goals as goal

pub returns : goal.returns
returns c = c.rules_of.ensures ∙ rw c.unwind_locate-located.ensures (rules_located _ _ _ _ _ _ _)
