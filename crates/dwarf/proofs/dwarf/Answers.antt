-- `dwarf::dwarf` meets its contract.
use mathlib.Core.Bool.{not}
use mathlib.Core.Path.{ap, sym}
use Rattle.std.proofs.lemmas.Result.{err_from_is_err_and}
use Rattle.format.proofs.Accepted.{machine_fits}
use Rattle.format.proofs.Choice.{is_yes_lem, ok_picked, err_picked}
use Rattle.lists.proofs.Answers.{refused}
use Rattle.dwarf.proofs.Whole.{says_11, says_listed, no_sums}
use Rattle.dwarf.proofs.dwarf.Goals as goal

pub returns-in_err-m : goal.returns-in_err-m
returns-in_err-m c =
    let p = err_from_is_err_and c.from_residual.result c.from_residual.ensures.1 in
    let h = err_picked _ _ _ c.in_err-m.was c.read_machine.ensures in
    rw (p.1, p.2, h.1) (says_11 _ _ _ _ _ _ h.0)

pub returns-then-not-sums_ok : goal.returns-then-not-sums_ok
returns-then-not-sums_ok c =
    let h = ok_picked _ _ _ c.in_ok-m.was c.read_machine.ensures in
    rw c.into.ensures (says_listed _ _ _ _ _ _ h.0 h.1 (no_sums _ _ _ _ _ (refused c.sums_ok.ensures (ap not c.if-not-sums_ok.true))))

pub invariant_of-x : goal.invariant_of-x
invariant_of-x c =
    let h = ok_picked _ _ _ c.in_ok-m.was c.read_machine.ensures in
    record { fits = rw h.1 (machine_fits _ (is_yes_lem h.0)) }

pub returns : goal.returns
returns c =
    let s = c.deliver.ensures.1 in
    let h = ok_picked _ _ _ c.in_ok-m.was c.read_machine.ensures in
    rw (c.places-1.given.1.1 (sym s.places), c.bytes-1.given.1.1 (sym s.bytes), c.relocations-1.given.1.1 (sym s.relocations), c.sites-1.given.1.1 (sym s.sites))
    (says_listed _ _ _ _ _ _ h.0 h.1 c.deliver.ensures.0)
