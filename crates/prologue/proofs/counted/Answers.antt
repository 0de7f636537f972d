-- `prologue::counted` meets its contract.
use Rattle.prologue.proofs.Counting.{first_push, no_push, more_steps}
use Rattle.prologue.proofs.counted.Goals as goal
use Rattle.prologue.proofs.counted.Goals.{else-pushes-via-then-pushes+else-eq, else-pushes-via-else-pushes}

pub returns-then-eq : goal.returns-then-eq
returns-then-eq c = first_push c.args.before c.if-pushes.true c.if-eq.ensures

pub returns : goal.returns
returns c =
    elim c.else-pushes.branch [
      | else-pushes-via-then-pushes+else-eq w ↦ more_steps c.args.before c.args.pushes w.if-eq.ensures
      | else-pushes-via-else-pushes w ↦ no_push c.args.before w.if-pushes.false
    ]
