-- `call_sites::entry_at` meets its contract.
use mathlib.Core.Path.{sym}
use native.Mathlib.Omega.{arith}
use Rattle.call_sites.proofs.OneEntry.{no_start, no_length, no_pad, no_action, too_far, one_entry}
use Rattle.call_sites.proofs.entry_at.Goals as goal

pub returns-in_err-start : goal.returns-in_err-start
returns-in_err-start c = let a = c.args in rw c.from_residual.ensures (no_start a.s.now a.at (sym c.in_err-start.ensures))

pub returns-in_err-length : goal.returns-in_err-length
returns-in_err-length c =
    let a = c.args in
    rw c.from_residual-in_err-length.ensures (no_length a.s.now a.at (sym c.in_ok-start.ensures) (sym c.in_err-length.ensures))

pub returns-in_err-pad : goal.returns-in_err-pad
returns-in_err-pad c =
    let a = c.args in
    rw c.from_residual-in_err-pad.ensures (no_pad a.s.now a.at (sym c.in_ok-start.ensures) (sym c.in_ok-length.ensures) (sym c.in_err-pad.ensures))

pub returns-in_err-past : goal.returns-in_err-past
returns-in_err-past c =
    let a = c.args in
    rw c.from_residual-in_err-past.ensures
    (no_action a.s.now a.at (sym c.in_ok-start.ensures) (sym c.in_ok-length.ensures) (sym c.in_ok-pad.ensures) (sym c.in_err-past.ensures))

pub returns-then-start-length : goal.returns-then-start-length
returns-then-start-length c =
    let a = c.args in
    too_far a.s.now a.at (sym c.in_ok-start.ensures) (sym c.in_ok-length.ensures) (sym c.in_ok-pad.ensures) (sym c.in_ok-past.ensures) (omega (arith, c.if-start-length.true))

pub returns : goal.returns
returns c =
    let a = c.args in
    one_entry a.s.now a.at (sym c.in_ok-start.ensures) (sym c.in_ok-length.ensures) (sym c.in_ok-pad.ensures) (sym c.in_ok-past.ensures) (omega (arith, c.if-start-length.false))
