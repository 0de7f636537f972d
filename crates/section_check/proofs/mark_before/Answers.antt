-- `section_check::mark_before` meets its contract.
use mathlib.Core.Path.{◌∙◌}
use Rattle.section_check.proofs.Pass.{no_mark, mark_there, mark_past}
use Rattle.section_check.proofs.mark_before.Goals as goal

pub returns-in-Some : goal.returns-in-Some
returns-in-Some c = let e = c.in-Some.ensures.lookup.3.1 0 in e ∙ mark_there c.args.marks.now c.args.step c.args.place (rw e at c.if-at-place.true)

pub returns-in_default : goal.returns-in_default
returns-in_default c = let e = c.in-Some.ensures.lookup.3.1 0 in mark_past c.args.marks.now c.args.step c.args.place (rw e at c.if-at-place.false)

pub returns-in_default-2 : goal.returns-in_default-2
returns-in_default-2 c = no_mark c.args.marks.now c.args.step c.args.place (rw c.in_default.is at c.get.ensures.lookup).3
