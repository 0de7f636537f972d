-- `reads::unwind_rules_at` meets its contract.
use Rattle.std.proofs.Common.{◌∙◌}
use Rattle.unwind.proofs.Marks.{both_marked}
use Rattle.reads.proofs.Placing.{same_mark}
use Rattle.reads.proofs.unwind_rules_at.Goals as goal

pub returns : goal.returns
returns c =
    c.numbers_of.ensures ∙ both_marked c.rules_of-rules.ensures (c.shortest_at-shortest.ensures ∙ same_mark _ _ c.from.ensures)
