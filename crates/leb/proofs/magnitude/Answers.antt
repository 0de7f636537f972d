-- `magnitude` is the number without its sign.
use native.Mathlib.Omega.{arith}
use Rattle.leb.proofs.Signs.{less_fits, less_cast, less_is, same_cast, same_is}
use Rattle.leb.proofs.magnitude.Goals as goal

pub overflow_sub-result : goal.overflow_sub-result
overflow_sub-result c = less_fits c.args.v c.ranges.v c.if-v-lt0.true

pub overflow_cast-result : goal.overflow_cast-result
overflow_cast-result c = less_cast c.args.v c.ranges.v c.if-v-lt0.true

pub overflow_cast-result-else-v-lt0 : goal.overflow_cast-result-else-v-lt0
overflow_cast-result-else-v-lt0 c = same_cast c.args.v c.ranges.v c.if-v-lt0.false

pub returns-then-v-lt0 : goal.returns-then-v-lt0
returns-then-v-lt0 c = let e = less_is c.args.v c.ranges.v c.if-v-lt0.true in (e, omega (arith, c.ranges.v.sfits))

pub returns-else-v-lt0 : goal.returns-else-v-lt0
returns-else-v-lt0 c = let e = same_is c.args.v c.ranges.v c.if-v-lt0.false in (e, omega (arith, c.ranges.v.sfits))
