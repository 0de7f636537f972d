-- `reads::unwind_function_at` meets its contract.
use Rattle.reads.specs.Addresses.{placed_as}
use Rattle.reads.proofs.Addressing.{function_unasked, function_asked}
use Rattle.std.proofs.Common.{ap, ◌∙◌}
use Rattle.reads.specs.Places.{asked}
use Rattle.reads.proofs.unwind_function_at.Goals as goal

pub returns-in_default : goal.returns-in_default
unfolding asked
returns-in_default c = c.from.ensures ∙ function_unasked _ _ _ _ _ (rw c.in_default.is at c.section_of.ensures)

pub returns : goal.returns
unfolding asked
returns c =
    let d = rw c.in-Some.is at c.section_of.ensures in
    c.from-2.ensures ∙ ap placed_as (rw (d.0, d.2.1, d.2.2) at c.function_at.ensures) ∙ function_asked _ _ _ _ _ d.2.0
