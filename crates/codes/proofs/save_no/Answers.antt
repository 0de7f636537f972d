-- `codes::save_no` meets its contract.
use Rattle.codes.proofs.Questions.{save_below, save_fits, save_far}
use Rattle.codes.proofs.save_no.Goals as goal

pub returns-then-z-lt0 : goal.returns-then-z-lt0
returns-then-z-lt0 c = save_below c.ranges.z c.if-z-lt0.true

pub returns-then-size-lt4294967296 : goal.returns-then-size-lt4294967296
returns-then-size-lt4294967296 c = save_fits c.ranges.z c.if-z-lt0.false c.size.ensures c.if-size-lt4294967296.true

pub returns : goal.returns
returns c = save_far c.ranges.z c.if-z-lt0.false c.size.ensures c.if-size-lt4294967296.false
