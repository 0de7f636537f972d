-- `given::FunctionRows::slot_code` meets its contract.
use mathlib.Core.Path.{sym, ◌∙◌}
use Rattle.format.specs.Prelude.{pick}
use Rattle.prologue.proofs.Distances.{sum_fits, sum_is}
use Rattle.prologue.proofs.given.FunctionRows.slot_code.Goals as goal

pub returns-then-joined : goal.returns-then-joined
unfolding pick
returns-then-joined c = rw (sym c.joined.ensures ∙ c.if-joined.true) c.push_code.ensures

pub overflow_add-below : goal.overflow_add-below
overflow_add-below c = sum_fits c.args.below c.args.z c.requires.1 c.requires.2

pub returns : goal.returns
unfolding pick
returns c =
    rw (sym c.joined.ensures ∙ c.if-joined.false) (rw (sum_is c.args.below c.args.z c.requires.1 c.requires.2) at c.save_code.ensures)
