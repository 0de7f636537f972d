-- `arm64_table::table` meets its contract.
use mathlib.Core.Path.{sym, ◌∙◌}
use Rattle.format.specs.Questions.{room_in}
use Rattle.arm64_table.proofs.Entries.{all_listed, table_empty, table_refused, table_answers}
use Rattle.arm64_table.proofs.table.Goals as goal

pub returns-then-n-eq0 : goal.returns-then-n-eq0
returns-then-n-eq0 c = let a = c.args in table_empty a.functions.now a.epilogues.now a.codes.now (room_in a.markers.now a.bytes.now a.relocations.now a.info.now) c.if-n-eq0.true

pub returns-then-not-ok : goal.returns-then-not-ok
returns-then-not-ok c = rw c.into.ensures (let a = c.args in table_refused a.functions.now a.epilogues.now a.codes.now (room_in a.markers.now a.bytes.now a.relocations.now a.info.now) c.if-n-eq0.false (sym c.ok.ensures ∙ c.if-not-ok.true))

pub invariant_of-answer : goal.invariant_of-answer
invariant_of-answer c = let a = c.args in record { listed = all_listed a.functions.now a.epilogues.now a.codes.now (sym c.ok.ensures ∙ c.if-not-ok.false) }

pub returns : goal.returns
returns c =
    let a = c.args in let s = c.answer.ensures.1 in
    rw (c.markers-1.given.1.1 (sym s.places), c.bytes-1.given.1.1 (sym s.bytes), c.relocations-1.given.1.1 (sym s.relocations), c.info-1.given.1.1 (sym s.sites))
    (rw (table_answers a.functions.now a.epilogues.now a.codes.now (room_in a.markers.now a.bytes.now a.relocations.now a.info.now) c.if-n-eq0.false (sym c.ok.ensures ∙ c.if-not-ok.false)) at c.answer.ensures.0)
