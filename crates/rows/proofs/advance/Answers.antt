-- `rows::advance` meets its contract.
use Rattle.format.proofs.PutLaws.{idle}
use Rattle.rows.proofs.Steps.{step_none, step_some, form_holds}
use Rattle.rows.proofs.advance.Goals as goal

pub returns-then-by-eq0 : goal.returns-then-by-eq0
returns-then-by-eq0 c = rw (step_none c.if-by-eq0.true) idle

pub step_as-requires : goal.step_as-requires
step_as-requires c =
    let e = step_some c.args.by c.if-by-eq0.false in
    rw c.step_form.ensures (form_holds c.args.by, rw e at c.requires)

pub returns : goal.returns
returns c = rw (step_some c.args.by c.if-by-eq0.false) (rw c.step_form.ensures at c.step_as.ensures)
