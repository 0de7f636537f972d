-- `walked::mark_all` meets its contract.
use mathlib.Core.Path.{◌∙◌}
use Rattle.reader.proofs.Reading.{along, read, onward, all_read}
use Rattle.walked.proofs.Marking.{mark_start, mark_bad, mark_ended, mark_turn}
use Rattle.walked.proofs.mark_all.Goals as goal

pub loop-read-init : goal.loop-read-init
loop-read-init c =
    let e = c.new-read-items.ensures in
    rw (c.into_iter-read-iterator.ensures.into_iter_gives) (along e.0 e.1 e.2 (mark_start _ _ _))

pub returns-in_default : goal.returns-in_default
returns-in_default c =
    let i = c.loop-read.invariant in
    mark_bad i.here (read i c.in-Some.ensures.steps ∙ c.in_default.is)

pub loop-read-preserved : goal.loop-read-preserved
loop-read-preserved c =
    let i = c.loop-read.invariant in
    let g = c.in-Some.ensures.steps in
    onward i g c.in-Some-read.is (mark_turn i.here (read i g ∙ c.in-Some-read.is) c.mark_operation.ensures)

pub returns : goal.returns
returns c = mark_ended c.loop-read.invariant.here (all_read c.loop-read.invariant c.in-None.ensures.steps)
