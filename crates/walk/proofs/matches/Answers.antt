-- `walk::matches` meets its contract.
use Rattle.walk.proofs.Trailers.{too_many, elsewhere, too_far, same_size}
use native.Mathlib.Omega.{arith}
use Rattle.walk.proofs.matches.Goals as goal

pub returns-then-count-gt128 : goal.returns-then-count-gt128
returns-then-count-gt128 c = too_many _ _ _ _ c.if-count-gt128.true

pub returns-then-distance-count : goal.returns-then-distance-count
returns-then-distance-count c = elsewhere _ _ _ _ c.if-count-gt128.false c.if-distance-count.true

pub returns-then-file-distance : goal.returns-then-file-distance
returns-then-file-distance c = too_far _ _ _ _ c.if-count-gt128.false c.if-distance-count.false (omega arith)

pub returns : goal.returns
returns c = same_size _ _ _ _ c.if-count-gt128.false c.if-distance-count.false (omega arith)
