-- `rows::advance_size` meets its contract.
use native.Mathlib.Omega.{arith}
use Rattle.rows.proofs.Steps.{step_none, step_some, form-length}
use Rattle.rows.proofs.advance_size.Goals as goal

pub returns-then-by-eq0 : goal.returns-then-by-eq0
returns-then-by-eq0 c = rw (step_none c.if-by-eq0.true)

pub overflow_add-result : goal.overflow_add-result
overflow_add-result c = omega (arith, form-length c.args.by, c.step_form.ensures)

pub returns : goal.returns
returns c = rw (step_some c.args.by c.if-by-eq0.false) (omega (arith, form-length c.args.by, c.step_form.ensures))
