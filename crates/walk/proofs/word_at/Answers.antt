-- `walk::word_at` meets its contract.
use Rattle.walk.proofs.Leaves.{word_none, word_is}
use mathlib.Core.Path.{sym}
use Rattle.walk.proofs.word_at.Goals as goal

pub returns-in_default : goal.returns-in_default
returns-in_default c = word_none _ _ (rw c.from-place.ensures at (sym c.in_default.ensures))

pub returns : goal.returns
returns c = word_is _ _ (rw c.from-place.ensures at (sym c.in-Some.ensures))
