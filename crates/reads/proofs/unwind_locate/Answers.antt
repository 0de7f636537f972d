-- `reads::unwind_locate` meets its contract.
use Rattle.reads.specs.Places.{located_as}
use Rattle.reads.proofs.Placing.{locate_unasked, locate_asked}
use Rattle.std.proofs.Common.{ap, ◌∙◌}
use Rattle.reads.specs.Places.{asked}
use Rattle.reads.proofs.unwind_locate.Goals as goal

pub returns-in_default : goal.returns-in_default
unfolding asked
returns-in_default c = c.from.ensures ∙ locate_unasked _ _ _ _ _ (rw c.in_default.is at c.section_of.ensures)

pub returns : goal.returns
unfolding asked
returns c =
    let d = rw c.in-Some.is at c.section_of.ensures in
    c.from-2.ensures ∙ ap located_as (rw (d.0, d.1, d.2.1, d.2.2) at c.locate_nth.ensures) ∙ locate_asked _ _ _ _ _ d.2.0
