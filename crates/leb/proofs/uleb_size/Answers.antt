-- `uleb_size` is the length of the unsigned LEB number.
use native.Mathlib.Omega.{arith}
use lib.Count.{leading_le, leading_length}
use Rattle.format.proofs.LebSteps.{uleb_last}
use Rattle.leb.proofs.Sizes.{uleb_size}
use Rattle.leb.proofs.uleb_size.Goals as goal

pub overflow_cast-result : goal.overflow_cast-result
overflow_cast-result c = omega (arith, leading_le 64 c.args.v)

pub overflow_sub-result : goal.overflow_sub-result
overflow_sub-result c = omega (arith, leading_le 64 c.args.v)

pub returns-then-v-lt128 : goal.returns-then-v-lt128
returns-then-v-lt128 c = rw (uleb_last c.args.v (omega arith))

pub returns-else-v-lt128 : goal.returns-else-v-lt128
returns-else-v-lt128 c =
    let v = c.args.v in
    let t = leading_length 64 v c.ranges.v.fits in
    omega (arith, uleb_size t.0 v t.3 t.2 (omega arith) (omega (arith, t.1)), t.1)
