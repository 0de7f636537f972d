-- `read_uleb` reads the unsigned LEB number that stands there.
use mathlib.Core.Path.{◌∙◌}
use native.Mathlib.Omega.{arith}
use Rattle.operations.proofs.Readings.{uleb_missing, uleb_fits, uleb_value, uleb_over}
use Rattle.operations.proofs.fields.read_uleb.Goals as goal

pub returns-in_err-g : goal.returns-in_err-g
returns-in_err-g c = c.from_residual.ensures ∙ uleb_missing _ _ c.in_err-g.ensures.0

pub returns-then-g-ge2 : goal.returns-then-g-ge2
returns-then-g-ge2 c = uleb_over c.args.at c.in_ok-g.ensures c.if-g-eq9.true c.if-g-ge2.true

pub overflow_mul-v : goal.overflow_mul-v
overflow_mul-v c = omega (arith, uleb_fits c.in_ok-g.ensures c.else-g-eq9.either)

pub overflow_add-v : goal.overflow_add-v
overflow_add-v c = omega (arith, uleb_fits c.in_ok-g.ensures c.else-g-eq9.either)

pub past-requires : goal.past-requires
past-requires c = omega (arith, c.in_ok-g.ensures.ahead)

pub returns : goal.returns
returns c = rw (c.past.ensures, c.uleb_size.ensures) (uleb_value c.args.at c.in_ok-g.ensures (uleb_fits c.in_ok-g.ensures c.else-g-eq9.either))
