-- `x64::seh` meets its contract.
use mathlib.Core.Bool.{not}
use Rattle.x64.proofs.Entries.{seh_empty, seh_refused, seh_answers, direct_listed}
use Rattle.format.specs.Questions.{room_in}
use Rattle.lists.proofs.Answers.{accepted, refused}
use Rattle.format.proofs.Choice.{is_yes_lem}
use mathlib.Core.Path.{ap, sym}
use Rattle.x64.proofs.seh.Goals as goal

pub returns-then-n-eq0 : goal.returns-then-n-eq0
returns-then-n-eq0 c = let a = c.args in seh_empty a.functions.now a.codes.now (room_in a.markers.now a.bytes.now a.relocations.now a.info.now) c.if-n-eq0.true

pub returns-then-not-codes_ok : goal.returns-then-not-codes_ok
returns-then-not-codes_ok c = let a = c.args in rw c.into.ensures (seh_refused a.functions.now a.codes.now (room_in a.markers.now a.bytes.now a.relocations.now a.info.now) c.if-n-eq0.false (refused c.codes_ok.ensures (ap not c.if-not-codes_ok.true)))

pub invariant_of-x : goal.invariant_of-x
invariant_of-x c = let a = c.args in record { listed = direct_listed a.functions.now a.codes.now (is_yes_lem (accepted c.codes_ok.ensures (ap not c.if-not-codes_ok.false))) }

pub returns : goal.returns
returns c =
    let a = c.args in
    let s = c.answer.ensures.1 in
    rw (c.markers-1.given.1.1 (sym s.places), c.bytes-1.given.1.1 (sym s.bytes), c.relocations-1.given.1.1 (sym s.relocations), c.info-1.given.1.1 (sym s.sites))
    (rw (seh_answers a.functions.now a.codes.now (room_in a.markers.now a.bytes.now a.relocations.now a.info.now) c.if-n-eq0.false (accepted c.codes_ok.ensures (ap not c.if-not-codes_ok.false))) at c.answer.ensures.0)
