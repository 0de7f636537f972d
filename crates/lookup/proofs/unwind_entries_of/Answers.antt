-- `lookup::unwind_entries_of` meets its contract.
use Rattle.std.proofs.Common.{ap, ◌∙◌}
use Rattle.reads.specs.Places.{asked}
use Rattle.lookup.specs.Entries.{entries_as}
use Rattle.lookup.proofs.Held.{entries_unasked, entries_asked}
use Rattle.lookup.proofs.unwind_entries_of.Goals as goal

pub returns-in_default : goal.returns-in_default
unfolding asked
returns-in_default c = c.from.ensures ∙ entries_unasked _ _ _ _ _ _ (rw c.in_default.is at c.section_of.ensures)

pub returns : goal.returns
unfolding asked
returns c =
    let d = rw c.in-Some.is at c.section_of.ensures in
    c.from-2.ensures ∙ ap entries_as (rw (d.0, d.1, d.2.1, d.2.2) at c.holding.ensures) ∙ entries_asked _ _ _ _ _ _ d.2.0
