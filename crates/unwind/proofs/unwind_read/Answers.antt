-- `unwind::unwind_read` meets its contract.
use mathlib.Core.Path.{◌∙◌}
use Rattle.reader.proofs.Asked.{place_found, place_refused, located_read, located_shortest, refused_read}
use Rattle.unwind.proofs.Marks.{both_marked, refused_marked}
use Rattle.unwind.proofs.unwind_read.Goals as goal

pub returns-in-Ok : goal.returns-in-Ok
returns-in-Ok c =
    let x = place_found c.in-Ok.is c.locate.ensures in
    c.numbers_of.ensures
    ∙ both_marked (c.with_number-rules.ensures ∙ (c.rules_at.ensures ∙ located_read _ _ _ _ _ _ _ x)) (c.shortest_at-shortest.ensures ∙ located_shortest _ _ _ _ _ _ x)

pub returns-in-Err : goal.returns-in-Err
returns-in-Err c =
    c.numbers_of-in-Err.ensures
    ∙ refused_marked _ c.number.ensures (refused_read _ _ _ _ _ _ _ (place_refused _ _ c.in-Err.is c.locate.ensures))
