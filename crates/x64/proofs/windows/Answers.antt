-- `x64::windows` meets its contract.
use mathlib.Core.Bool.{not}
use mathlib.Core.Path.{ap, sym}
use Rattle.std.proofs.lemmas.Result.{err_from_is_err_and}
use Rattle.x64.proofs.ByRows.{no_machine, no_word, no_lists, rows_written, rows_listed, machine_known}
use Rattle.format.specs.Questions.{room_in}
use Rattle.lists.proofs.Answers.{accepted, refused}
use Rattle.format.specs.Questions.{Given, Room}
use Rattle.format.proofs.Choice.{is_yes_lem, ok_picked, err_picked}
use Rattle.x64.proofs.windows.Goals as goal
use Rattle.x64.proofs.windows.Goals.{Start}

-- the lists, and the lengths of the lent ones
abbrev given : Start → Given
given s =
    record { machine = s.args.machine.now; functions = s.args.functions.now; rows = s.args.rows.now; landings = s.args.landings.now; pairs = s.args.pairs.now }

abbrev room : Start → Room
room s = room_in s.args.markers.now s.args.bytes.now s.args.relocations.now s.args.info.now

pub returns-in_err-m : goal.returns-in_err-m
returns-in_err-m c =
    let g = goal.at.returns-in_err-m c in
    let p = err_from_is_err_and c.from_residual.result c.from_residual.ensures.1 in
    let h = err_picked _ _ _ c.in_err-m.was c.read_machine.ensures in
    rw (p.1, p.2, h.1) (no_machine (given g.Start) (room g.Start) h.0)

pub returns-then-not-word_ok : goal.returns-then-not-word_ok
returns-then-not-word_ok c = rw c.into.ensures (no_word (given (goal.at.returns-then-not-word_ok c).Start) (room (goal.at.returns-then-not-word_ok c).Start) (ok_picked _ _ _ c.in_ok-m.was c.read_machine.ensures).0 (rw (ok_picked _ _ _ c.in_ok-m.was c.read_machine.ensures).1 at (refused c.word_ok.ensures (ap not c.if-not-word_ok.true))))

pub returns-then-not-ok : goal.returns-then-not-ok
returns-then-not-ok c = rw c.into-then-not-ok.ensures (no_lists (given (goal.at.returns-then-not-ok c).Start) (room (goal.at.returns-then-not-ok c).Start) (ok_picked _ _ _ c.in_ok-m.was c.read_machine.ensures).0 (rw (ok_picked _ _ _ c.in_ok-m.was c.read_machine.ensures).1 at (accepted c.word_ok.ensures (ap not c.if-not-word_ok.false))) (refused c.ok.ensures (ap not c.if-not-ok.true)))

pub invariant_of-known : goal.invariant_of-known
invariant_of-known c =
    let h = machine_known c.args.machine.now (ok_picked _ _ _ c.in_ok-m.was c.read_machine.ensures).0 (ok_picked _ _ _ c.in_ok-m.was c.read_machine.ensures).1 (accepted c.word_ok.ensures (ap not c.if-not-word_ok.false)) in
    record { registers = h.0; word = h.1; pushed = h.2 }

pub invariant_of-x : goal.invariant_of-x
invariant_of-x c = let a = c.args in record { listed = rows_listed _ a.functions.now a.rows.now a.landings.now a.pairs.now (is_yes_lem (accepted c.ok.ensures (ap not c.if-not-ok.false))) }

pub returns : goal.returns
returns c =
    let s = c.answer.ensures.1 in
    let y = rw (ok_picked _ _ _ c.in_ok-m.was c.read_machine.ensures).1 at (accepted c.word_ok.ensures (ap not c.if-not-word_ok.false)) in
    rw (c.markers-1.given.1.1 (sym s.places), c.bytes-1.given.1.1 (sym s.bytes), c.relocations-1.given.1.1 (sym s.relocations), c.info-1.given.1.1 (sym s.sites))
    (rows_written (given (goal.at.returns c).Start) (room (goal.at.returns c).Start) _ c.answer.ensures.0 (ok_picked _ _ _ c.in_ok-m.was c.read_machine.ensures).1 (ok_picked _ _ _ c.in_ok-m.was c.read_machine.ensures).0 y (accepted c.ok.ensures (ap not c.if-not-ok.false)))
