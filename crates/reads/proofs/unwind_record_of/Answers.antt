-- `reads::unwind_record_of` meets its contract.
use Rattle.reads.specs.Addresses.{holder_as}
use Rattle.reads.proofs.Addressing.{holder_unasked, holder_asked}
use Rattle.std.proofs.Common.{ap, ◌∙◌}
use Rattle.reads.specs.Places.{asked}
use Rattle.reads.proofs.unwind_record_of.Goals as goal

pub returns-in_default : goal.returns-in_default
unfolding asked
returns-in_default c = c.from.ensures ∙ holder_unasked _ _ _ _ _ (rw c.in_default.is at c.section_of.ensures)

pub returns : goal.returns
unfolding asked
returns c =
    let d = rw c.in-Some.is at c.section_of.ensures in
    c.from-2.ensures ∙ ap holder_as (rw (d.0, d.2.1, d.2.2) at c.holder_in.ensures) ∙ holder_asked _ _ _ _ _ d.2.0
